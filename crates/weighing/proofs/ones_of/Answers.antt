-- `weighing::ones_of` meets its contract.
-- Assumes nothing.
use native.Mathlib.Omega.{arith}
use lib.Count.{ones-le}
use Rattle.weighing.proofs.ones_of.Goals as goal

pub returns : goal.returns
returns c = (c.from.ensures, rw c.from.ensures (ones-le 16 c.args.mask (omega arith)))
