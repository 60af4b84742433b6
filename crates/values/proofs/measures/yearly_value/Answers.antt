-- `values::measures::yearly_value` meets its contract.
-- Assumes nothing.
use native.Mathlib.Omega.{arith}
use Prim.Native.Nat.{ℕ}
use mathlib.Core.Path.{◌≡◌, refl, sym}
use Rattle.calls.specs.Limits.{cabins_in}
use Rattle.calls.specs.Indicators.{electricity}
use Rattle.values.specs.Indicator.{numbered, numbered_in}
use Rattle.values.proofs.measures.yearly_value.Goals as goal

-- A1
pub returns-in-0 : goal.returns-in-0
unfolding numbered numbered_in electricity
returns-in-0 c = rw c.in-0.is (c.frequency.ensures cabins_in (sym c.cabins_in-cabins.ensures.0))

-- A2
pub returns-in-1 : goal.returns-in-1
unfolding numbered numbered_in electricity
returns-in-1 c = rw c.in-1.is c.duration.ensures

-- A3
pub returns-in-2 : goal.returns-in-2
unfolding numbered numbered_in electricity
returns-in-2 c = rw c.in-2.is (c.frequency-in-2.ensures (λ (year : ℕ). 1) refl)

-- A4
pub returns-in-3 : goal.returns-in-3
unfolding numbered numbered_in electricity
returns-in-3 c = rw c.in-3.is c.duration-in-3.ensures

-- D1
pub returns-in-4 : goal.returns-in-4
unfolding numbered numbered_in electricity
returns-in-4 c = rw c.in-4.is c.fee.ensures

-- D2
pub returns-in_default : goal.returns-in_default
unfolding numbered numbered_in electricity
returns-in_default c =
    let last : c.args.number ≡ 5 = omega arith in
    rw last c.fee-in_default.ensures
