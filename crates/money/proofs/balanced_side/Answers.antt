-- `money::balanced_side` meets its contract.
-- Assumes nothing.
use mathlib.Core.Path.{◌≡◌, refl, ◌∙◌}
use Prim.Native.Nat.{◌<◌}
use native.Mathlib.Omega.{arith}
use borrow.Author.Tests.{lt-ltb, le-ltb}
use Rattle.apportion.specs.Sum.{sum}
use Rattle.money.specs.Money.{balanced}
use Rattle.money.proofs.balanced_side.Goals as goal

pub returns-then-smaller-sum_of : goal.returns-then-smaller-sum_of
unfolding balanced
returns-then-smaller-sum_of c =
    let least : c.sum_of-smaller.result ≡ sum c.args.other = c.sum_of-smaller.ensures in
    let larger : sum c.args.other < sum c.args.side = omega arith in
    c.share.ensures ∙ rw (least, lt-ltb _ _ larger) refl

pub returns : goal.returns
unfolding balanced
returns c = rw (le-ltb (sum c.args.other) (sum c.args.side) (omega arith)) refl
