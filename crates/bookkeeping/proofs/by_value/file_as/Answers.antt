-- `bookkeeping::by_value::file_as` meets its contract.
-- Assumes nothing.
use mathlib.Core.Path.{◌≡◌, refl, sym, ◌∙◌}
use mathlib.Core.Bool.{true, false}
use Rattle.calls.specs.Indicators.{indicators_of}
use Rattle.calls.specs.Answers.{on_answer}
use Rattle.book.specs.Book.{in_range}
use Rattle.ledger.specs.Calls.{outcome_of, file_as}
use Rattle.bookkeeping.proofs.by_value.file_as.Goals as goal

-- 5, of the book
pub returns-then-not-in_range : goal.returns-then-not-in_range
unfolding file_as outcome_of on_answer
returns-then-not-in_range c =
    let outside : in_range (indicators_of c.args.kind) c.args.b ≡ false = sym c.in_range.ensures ∙ c.if-not-in_range.true in
    rw outside (refl, refl)

pub invariant_of-ranged : goal.invariant_of-ranged
invariant_of-ranged c = record { ranged = sym c.in_range.ensures ∙ c.if-not-in_range.false }

pub returns : goal.returns
unfolding file_as
returns c =
    let here : in_range (indicators_of c.args.kind) c.args.b ≡ true = sym c.in_range.ensures ∙ c.if-not-in_range.false in
    rw here c.apply_in-answer.ensures.leaves
