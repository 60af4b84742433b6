-- The loop of `apportion_test::all_bounded` keeps: each number stored adds less than 2 ^ 57 to the sum.
use Rattle.std.proofs.Common.{◌*◌, ◌^◌, ◌≤◌, ◌≡◌, length}
use Rattle.apportion.specs.Sum.{sum}
use Rattle.apportion_test.proofs.all_bounded.Given as goal

abbrev pub invariant-loop-i : goal.invariant-loop-i
invariant-loop-i l = (length l.all ≡ 16) × (sum l.all ≤ l.i * 2 ^ 57)
