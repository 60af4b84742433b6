-- `exact::divide` meets its contract.
-- Assumes nothing.
use mathlib.Core.Path.{◌≡◌, refl}
use Prim.Native.Nat.{ℕ, ◌/◌, ◌<◌, ◌≤◌}
use native.Mathlib.Omega.{arith}
use native.Mathlib.Nat.{div-le_self}
use borrow.Author.Tests.{ne_eqb, eq-eqb}
use Rattle.std.specs.Prelude.{Option, Some, None, SomeIff, unwrap_or}
use Rattle.exact.specs.Division.{over}
use Rattle.exact.proofs.divide.Goals as goal

-- the checked quotient, or 0
divided_or-zero : (o : Option ℕ) (a b : ℕ) → SomeIff o (0 < b) (a / b) → (unwrap_or o 0 ≡ over a b) × (unwrap_or o 0 ≤ a)
unfolding over
divided_or-zero None a b none = (rw (eq-eqb b 0 (omega (arith, none))) refl, omega arith)
divided_or-zero (Some x) a b some = (rw (ne_eqb b 0 (λ e. omega (arith, some.0)), some.1) refl, rw some.1 (div-le_self a b))

pub returns : goal.returns
returns c = rw c.unwrap_or.ensures (divided_or-zero _ _ _ c.checked_div.ensures)
