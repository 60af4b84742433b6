-- `admission::interruptions::is_outside` meets its contract: its tests are those of the period, of numbers that the code has as bits.
-- Assumes nothing.
use mathlib.Core.Path.{sym}
use Rattle.calls.proofs.Times.{back, out-at-first, out-at-last, out-early}
use Rattle.admission.proofs.interruptions.is_outside.Goals as goal

-- it ends before 2017,
pub returns-then-end-lt0 : goal.returns-then-end-lt0
returns-then-end-lt0 c = sym (out-at-first c.args.start c.args.end (rw (back c.ranges.end) at c.if-end-lt0.true))

-- after 2019,
pub returns-then-end-gt-LAST_END : goal.returns-then-end-gt-LAST_END
returns-then-end-gt-LAST_END c = sym (out-at-last c.args.start c.args.end (rw (back c.ranges.end) at c.if-end-gt-LAST_END.true))

-- or the start decides
pub returns : goal.returns
returns c =
    rw
    (back c.ranges.start)
    (sym (out-early c.args.start c.args.end (rw (back c.ranges.end) at c.if-end-lt0.false) (rw (back c.ranges.end) at c.if-end-gt-LAST_END.false)))
