-- `bookkeeping::gas::file_gas` meets its contract: its core does, at gas.
-- Assumes nothing.
use Rattle.bookkeeping.proofs.gas.file_gas.Goals as goal

pub returns : goal.returns
returns c = c.file_as.ensures
