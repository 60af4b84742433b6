-- `output::output_gas` meets its contract: its core does, at gas.
-- Assumes nothing.
use Rattle.output.proofs.output_gas.Goals as goal

pub returns : goal.returns
returns c = c.output_as.ensures
