-- `arguments::interruptions::details_in_range` meets its contract.
-- Assumes nothing.
use borrow.Author.Tests.{lt-leb, le-leb}
use Rattle.calls.specs.Call.{details_in_range}
use Rattle.arguments.proofs.interruptions.details_in_range.Goals as goal

-- no such sign
pub returns-then-sign-gt1 : goal.returns-then-sign-gt1
unfolding details_in_range
returns-then-sign-gt1 c = simp (lt-leb _ _ c.if-sign-gt1.true)

-- no such level
pub returns-then-level-gt1 : goal.returns-then-level-gt1
unfolding details_in_range
returns-then-level-gt1 c = simp (le-leb _ _ c.if-sign-gt1.false, lt-leb _ _ c.if-level-gt1.true)

-- no such cause
pub returns-then-cause-gt4 : goal.returns-then-cause-gt4
unfolding details_in_range
returns-then-cause-gt4 c =
    simp (le-leb _ _ c.if-sign-gt1.false, le-leb _ _ c.if-level-gt1.false, lt-leb c.args.cause 4 c.if-cause-gt4.true)

-- the weight decides
pub returns : goal.returns
unfolding details_in_range
returns c = simp (le-leb _ _ c.if-sign-gt1.false, le-leb _ _ c.if-level-gt1.false, le-leb _ _ c.if-cause-gt4.false, c.weight_in_range.ensures)
