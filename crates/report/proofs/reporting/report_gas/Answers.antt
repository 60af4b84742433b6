-- `report::reporting::report_gas` meets its contract: its core does, at gas.
-- Assumes nothing.
use Rattle.report.proofs.reporting.report_gas.Goals as goal

pub returns : goal.returns
returns c = c.report_as.ensures
