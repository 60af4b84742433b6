-- What std's test of a range with both its ends tells of a number.
-- Assumes nothing.
use Prim.Native.Nat.{ℕ}
use mathlib.Core.Path.{◌≡◌}
use mathlib.Core.Bool.{Bool, false, ◌&&◌}
use native.Mathlib.Omega.{arith}
use lib.Dec.{leb}
use Rattle.std.specs.Prelude.{Option, Some, cond}
use Rattle.std.specs.Ordering.{nat_cmp, partial_le, partial_lt}
use Rattle.std.proofs.Common.{Ordering}
use Rattle.std.proofs.lemmas.Bool.Decides.{nat_tests}

-- how two numbers compare
abbrev compared : ℕ → ℕ → Option Ordering
compared a b = Some (nat_cmp a b)

-- x lies from a to b, b included, where the range is not spent
pub between : (a x b : ℕ) {r : Bool} → r ≡ partial_le compared a x && cond false (partial_lt compared x b) (partial_le compared x b) → r ≡ leb a x && leb x b
between a x b told = grind (arith, nat_tests)
