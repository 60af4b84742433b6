-- `calls::interruptions::year_of` meets its contract.
-- Assumes nothing.
use mathlib.Core.Path.{ap}
use Prim.Native.Nat.{◌/◌}
use native.Mathlib.Omega.{arith}
use lib.IntN.{ℤ, nat_abs}
use Rattle.calls.specs.Limits.{year_length}
use Rattle.calls.specs.Call.{year_of}
use Rattle.calls.proofs.Times.{back, ends}
use Rattle.judging.proofs.interruptions.year_of.Goals as goal

-- the result stands first, so that a wrong year is what is told first
pub returns : goal.returns
unfolding year_of
returns c = ap (λ (z : ℤ). nat_abs z / year_length) (back c.ranges.end)

pub overflow_cast-stop : goal.overflow_cast-stop
overflow_cast-stop c =
    let times = ends _ _ c.requires in
    rw (back c.ranges.end, times.end_is) (tt, record { fits = omega (arith, times.stop_most) })

pub overflow_cast-result : goal.overflow_cast-result
overflow_cast-result c =
    let times = ends _ _ c.requires in
    rw (back c.ranges.end, times.end_is) (record { fits = omega (arith, times.stop_most) })
