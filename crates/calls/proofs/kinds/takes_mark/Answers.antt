-- `calls::kinds::takes_mark` meets its contract.
-- Assumes nothing.
use borrow.Author.Rules.{rules}
use mathlib.Core.Path.{refl}
use Rattle.calls.proofs.KindLaws.{mark-taken}
use Rattle.calls.proofs.kinds.takes_mark.Goals as goal

pub returns-then-takes_interruptions : goal.returns-then-takes_interruptions
returns-then-takes_interruptions c = rw (mark-taken c.args.kind c.args.indicator (search rules), ← c.takes_interruptions.ensures, c.if-takes_interruptions.true) refl

pub returns-else-takes_interruptions : goal.returns-else-takes_interruptions
returns-else-takes_interruptions c =
    rw (mark-taken c.args.kind c.args.indicator (search rules), ← c.takes_interruptions.ensures, c.if-takes_interruptions.false)
    refl
