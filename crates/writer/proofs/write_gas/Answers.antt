-- `writer::write_gas` meets its contract: its core does, at gas.
-- Assumes nothing.
use Rattle.writer.proofs.write_gas.Goals as goal

pub returns : goal.returns
returns c = c.write_as.ensures
