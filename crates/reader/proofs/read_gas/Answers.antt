-- `reader::read_gas` meets its contract.
-- Assumes nothing.
use Rattle.filing.specs.Reader.{read_as}
use Rattle.reader.proofs.read_gas.Goals as goal

pub returns : goal.returns
unfolding read_as
returns c = c.read_from_gas.ensures
