-- `calls::interruptions::judge` meets its contract.
-- Assumes nothing.
use mathlib.Core.Path.{refl}
use native.Mathlib.Omega.{arith}
use borrow.Author.Tests.{lt-leb, le-leb}
use Rattle.calls.specs.Limits.{short_most}
use Rattle.calls.specs.Call.{outcome}
use Rattle.judging.proofs.JudgedLaws.{other-cause}
use Rattle.judging.proofs.interruptions.judge.Goals as goal

-- short
pub returns-then-seconds-le-SHORT : goal.returns-then-seconds-le-SHORT
unfolding outcome
returns-then-seconds-le-SHORT c = λ year. rw (le-leb c.args.seconds short_most (omega arith)) refl

-- planned
pub returns-then-cause-eq1 : goal.returns-then-cause-eq1
unfolding outcome
returns-then-cause-eq1 c = λ year. rw (lt-leb c.args.seconds short_most (omega arith), c.if-cause-eq1.true) refl

-- coupled
pub returns-then-cause-eq2 : goal.returns-then-cause-eq2
unfolding outcome
returns-then-cause-eq2 c = λ year. rw (lt-leb c.args.seconds short_most (omega arith), c.if-cause-eq2.true) refl

-- exceptional
pub returns-then-cause-eq3 : goal.returns-then-cause-eq3
unfolding outcome
returns-then-cause-eq3 c = λ year. rw (lt-leb c.args.seconds short_most (omega arith), c.if-cause-eq3.true) refl

-- counted
pub returns : goal.returns
unfolding outcome
returns c = λ year. rw (lt-leb c.args.seconds short_most (omega arith), other-cause _ c.if-cause-eq1.false c.if-cause-eq2.false c.if-cause-eq3.false) refl
