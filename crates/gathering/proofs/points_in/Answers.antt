-- `gathering::points_in` meets its contract.
-- Assumes nothing.
use mathlib.Core.Path.{sym, ◌∙◌}
use mathlib.Core.Bool.{true, false}
use borrow.Author.Rules.{rules}
use Rattle.gathering.proofs.Gathering.{points-of-kind}
use Rattle.gathering.proofs.points_in.Goals as goal

pub returns-then-not-takes_mark : goal.returns-then-not-takes_mark
returns-then-not-takes_mark c =
    let start = c.args in
    sym (points-of-kind start.m.book.now start.kind start.number (search rules) false (sym c.takes_mark.ensures ∙ c.if-not-takes_mark.true))

pub returns : goal.returns
returns c =
    let start = c.args in
    c.points_of.ensures
    ∙ sym (points-of-kind start.m.book.now start.kind start.number (search rules) true (sym c.takes_mark.ensures ∙ c.if-not-takes_mark.false))
