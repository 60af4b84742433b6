-- `apportion::Claim::precedes` meets its contract.
-- Assumes nothing.
use mathlib.Core.Path.{sym, ◌∙◌}
use native.Mathlib.Omega.{arith}
use Rattle.apportion.specs.Share.{precedes}
use Rattle.apportion.proofs.Order.{apart, tied}
use Rattle.apportion.proofs.Claim.precedes.Goals as goal

-- remainders apart
pub returns-then-self-other : goal.returns-then-self-other
unfolding precedes
returns-then-self-other c = let args = c.args in sym (apart args.self.remainder args.other.remainder _ c.if-self-other.true)

-- a tie, and sizes apart
pub returns-then-self-other-2 : goal.returns-then-self-other-2
unfolding precedes
returns-then-self-other-2 c =
    let args = c.args in
    sym (tied args.self.remainder args.other.remainder _ (omega arith) ∙ apart args.self.size args.other.size _ c.if-self-other-2.true)

-- a tie of sizes too
pub returns : goal.returns
unfolding precedes
returns c =
    let args = c.args in
    sym (tied args.self.remainder args.other.remainder _ (omega arith) ∙ tied args.self.size args.other.size _ (omega arith))
