-- `calls::kinds::takes_figure` meets its contract.
-- Assumes nothing.
use borrow.Author.Rules.{rules}
use mathlib.Core.Path.{refl}
use Rattle.calls.proofs.Between.{between}
use Rattle.calls.proofs.KindLaws.{figure-taken}
use Rattle.calls.proofs.kinds.takes_figure.Goals as goal

pub returns-then-takes_interruptions : goal.returns-then-takes_interruptions
returns-then-takes_interruptions c = rw (figure-taken c.args.kind c.args.figure (search rules), ← c.takes_interruptions.ensures, c.if-takes_interruptions.true) refl

pub returns-else-takes_interruptions : goal.returns-else-takes_interruptions
returns-else-takes_interruptions c =
    rw (figure-taken c.args.kind c.args.figure (search rules), ← c.takes_interruptions.ensures, c.if-takes_interruptions.false)
    (between 4 c.args.figure 7 (rw (c.new.ensures.start, c.new.ensures.end, c.new.ensures.exhausted) at c.contains.ensures.value))
