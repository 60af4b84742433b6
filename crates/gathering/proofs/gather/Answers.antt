-- `gathering::gather` meets its contract.
-- Assumes nothing.
use mathlib.Core.Path.{◌≡◌}
use native.Mathlib.Omega.{arith}
use Rattle.calls.specs.Limits.{indicator_count}
use Rattle.gathering.proofs.Gathering.{gathers-none, gathers-more, gathers-all}
use Rattle.gathering.proofs.gather.Goals as goal

pub loop-number-init : goal.loop-number-init
loop-number-init c = gathers-none c.args.m.book.now _

pub put-requires : goal.put-requires
put-requires c =
    record { number_there = omega arith; totals_most = λ k. omega (arith, c.loop-number.invariant.totals_most k) }

pub loop-number-preserved : goal.loop-number-preserved
loop-number-preserved c = gathers-more c.args.m.book.now c.args.kind _ _ _ (omega arith) c.loop-number.invariant c.put.ensures

pub returns : goal.returns
returns c =
    let here = c.loop-number in
    let last : here.number ≡ indicator_count = omega arith in
    gathers-all c.args.m.book.now c.args.kind here.g (rw last at here.invariant)
