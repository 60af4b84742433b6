-- `indicators::pools::points_a_year` meets its contract.
-- Assumes nothing.
use mathlib.Core.Path.{◌≡◌, refl}
use native.Mathlib.Omega.{arith}
use Rattle.calls.specs.Indicators.{electricity}
use Rattle.values.specs.Indicator.{numbered, numbered_in}
use Rattle.indicators.proofs.pools.points_a_year.Goals as goal

-- A1
pub returns-in-0 : goal.returns-in-0
unfolding numbered numbered_in electricity
returns-in-0 c = rw c.in-0.is (refl, omega arith)

-- A2
pub returns-in-1 : goal.returns-in-1
unfolding numbered numbered_in electricity
returns-in-1 c = rw c.in-1.is (refl, omega arith)

-- A3
pub returns-in-2 : goal.returns-in-2
unfolding numbered numbered_in electricity
returns-in-2 c = rw c.in-2.is (refl, omega arith)

-- A4
pub returns-in-3 : goal.returns-in-3
unfolding numbered numbered_in electricity
returns-in-3 c = rw c.in-3.is (refl, omega arith)

-- D1
pub returns-in-4 : goal.returns-in-4
unfolding numbered numbered_in electricity
returns-in-4 c = rw c.in-4.is (refl, omega arith)

-- D2
pub returns-in_default : goal.returns-in_default
unfolding numbered numbered_in electricity
returns-in_default c =
    let last : c.args.number ≡ 5 = omega arith in
    rw last (refl, omega arith)
