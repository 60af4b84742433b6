-- `range::taken::in_range` meets its contract.
-- Assumes nothing.
use mathlib.Core.Path.{sym, ◌∙◌}
use Rattle.book.specs.Book.{in_range}
use Rattle.book.proofs.TakenLaws.{all-taken}
use Rattle.range.proofs.taken.in_range.Goals as goal

pub returns-then-takes_interruptions : goal.returns-then-takes_interruptions
unfolding in_range
returns-then-takes_interruptions c =
    let start = c.args in
    rw (
      sym c.within_limits.ensures ∙ c.if-within_limits.true,
      all-taken start.kind start.b (sym c.takes_interruptions.ensures ∙ c.if-takes_interruptions.true),
    )
    c.if-takes_interruptions.true

pub returns-else-takes_interruptions : goal.returns-else-takes_interruptions
unfolding in_range
returns-else-takes_interruptions c = rw (sym c.within_limits.ensures ∙ c.if-within_limits.true) c.only_taken.ensures

pub returns-else-within_limits : goal.returns-else-within_limits
unfolding in_range
returns-else-within_limits c = rw (sym c.within_limits.ensures ∙ c.if-within_limits.false) c.if-within_limits.false
