-- `calls::kinds::takes_setting` meets its contract.
-- Assumes nothing.
use borrow.Author.Rules.{rules}
use mathlib.Core.Path.{refl}
use Rattle.calls.proofs.Between.{between}
use Rattle.calls.proofs.KindLaws.{setting-taken}
use Rattle.calls.proofs.kinds.takes_setting.Goals as goal

pub returns-then-takes_interruptions : goal.returns-then-takes_interruptions
returns-then-takes_interruptions c = rw (setting-taken c.args.kind c.args.which (search rules), ← c.takes_interruptions.ensures, c.if-takes_interruptions.true) refl

pub returns-else-takes_interruptions : goal.returns-else-takes_interruptions
returns-else-takes_interruptions c =
    rw (setting-taken c.args.kind c.args.which (search rules), ← c.takes_interruptions.ensures, c.if-takes_interruptions.false)
    (between 1 c.args.which 2 (rw (c.new.ensures.start, c.new.ensures.end, c.new.ensures.exhausted) at c.contains.ensures.value))
