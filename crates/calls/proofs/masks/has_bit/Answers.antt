-- `calls::masks::has_bit` meets its contract.
-- Assumes nothing.
use native.Mathlib.Omega.{arith}
use mathlib.Core.Path.{refl, sym, ◌∙◌}
use borrow.Author.Tests.{lt-leb}
use Rattle.calls.specs.Masks.{has}
use Rattle.calls.proofs.Bit.{has-high}
use Rattle.calls.proofs.masks.has_bit.Goals as goal

pub returns-then-k-le-LAST_OPERATOR : goal.returns-then-k-le-LAST_OPERATOR
unfolding has
returns-then-k-le-LAST_OPERATOR c = refl

pub returns-else-k-le-LAST_OPERATOR : goal.returns-else-k-le-LAST_OPERATOR
returns-else-k-le-LAST_OPERATOR c = lt-leb c.args.k 15 (omega arith) ∙ sym (has-high c.args.mask c.args.k (omega arith) (omega arith))
