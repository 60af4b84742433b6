-- The loop of `apportion_test::all_bounded` keeps: each number stored adds less than 2 ^ 57 to the sum.
use Rattle.std.proofs.Common.{arith, rules, refl}
use Rattle.apportion.specs.Sum.{sum}
use Rattle.apportion.proofs.Sums.{sum-set}
use Rattle.apportion_test.proofs.all_bounded.Goals as goal

pub loop-i-init : goal.loop-i-init
unfolding sum
loop-i-init c = (refl, omega arith)

pub loop-i-preserved : goal.loop-i-preserved
loop-i-preserved c = (
  search rules,
  omega (arith, sum-set c.loop-i.all c.loop-i.i c.bounded.result (omega arith)),
)
