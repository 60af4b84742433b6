-- `calls::interruptions::seconds_of` meets its contract.
-- Assumes nothing.
use mathlib.Core.Path.{refl}
use native.Mathlib.Omega.{arith}
use lib.IntN.{pos}
use mir.Syntax.{w64}
use mir.Val.{SFits}
use Rattle.calls.specs.Call.{seconds_of}
use Rattle.calls.proofs.Times.{back, lasts}
use Rattle.judging.proofs.interruptions.seconds_of.Goals as goal

pub overflow_sub-result : goal.overflow_sub-result
overflow_sub-result c =
    let times = lasts _ _ c.requires.0 c.requires.1 in
    rw (back c.ranges.end, back c.ranges.start, times.length_is) (record { sfits = omega (arith, times.length_most) })

pub overflow_cast-result : goal.overflow_cast-result
overflow_cast-result c =
    let times = lasts _ _ c.requires.0 c.requires.1 in
    let small : SFits w64 (pos times.length) = record { sfits = omega (arith, times.length_most) } in
    rw (back c.ranges.end, back c.ranges.start, times.length_is, back small) (tt, record { fits = omega (arith, times.length_most) })

pub returns : goal.returns
unfolding seconds_of
returns c =
    let times = lasts _ _ c.requires.0 c.requires.1 in
    let small : SFits w64 (pos times.length) = record { sfits = omega (arith, times.length_most) } in
    rw (back c.ranges.end, back c.ranges.start, times.length_is, back small) refl
