-- `calls::masks::include_bit` meets its contract.
-- Assumes nothing.
use mathlib.Core.Path.{refl}
use Rattle.calls.specs.Masks.{including}
use Rattle.calls.proofs.Bit.{shifted}
use Rattle.calls.proofs.masks.include_bit.Goals as goal

pub returns : goal.returns
unfolding including
returns c = rw (shifted c.args.k c.requires) refl
