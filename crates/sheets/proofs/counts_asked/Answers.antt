-- `sheets::counts_asked` meets its contract.
-- Assumes nothing.
use mathlib.Core.Path.{◌≡◌, sym, ap, ◌∙◌}
use mathlib.Core.Bool.{Bool, true}
use Rattle.calls.specs.Indicators.{electricity}
use Rattle.calls.specs.Answers.{Said, first_of}
use Rattle.calls.specs.Call.{facts_of}
use Rattle.book.specs.Book.{in_range}
use Rattle.ledger.specs.Steps.{member_lines}
use Rattle.sheets.proofs.SheetLaws.{year-alone, sheet-out-of-range, told-refusal, Asked, asked}
use Rattle.sheets.proofs.counts_asked.Goals as goal
use Rattle.sheets.proofs.counts_asked.Goals.{After-admit}

-- what is known once the book is seen to be in range and the shared checks are asked
module _ (m : After-admit) where
  ranged : in_range electricity m.args.b.now ≡ true
  ranged = sym m.in_range-ranged.ensures ∙ m.if-not-ranged.false

  answered : (answer : Said (Unit {0})) → answer ≡ first_of (member_lines m.args.b.now.joined m.args.operator m.amount_in_range-valid.result) tt
      → Asked m.args.b.now m.args.operator m.args.year ranged answer
  unfolding facts_of
  answered answer told =
      asked m.args.b.now m.args.operator m.args.year ranged answer
      (ap (λ (ranges : Bool). first_of (member_lines m.args.b.now.joined m.args.operator ranges) tt) (sym (year-alone m.args.year) ∙ sym m.amount_in_range-valid.ensures)
      ∙ sym told)

-- a book out of range
pub returns-then-not-ranged : goal.returns-then-not-ranged
returns-then-not-ranged c = sym (sheet-out-of-range c.args.b.now c.args.operator c.args.year (sym c.in_range-ranged.ensures ∙ c.if-not-ranged.true))

-- 4, 5 or 7
pub returns-in_err-admit : goal.returns-in_err-admit
returns-in_err-admit c =
    told-refusal _ _ c.from_residual.ensures.1
    ∙ sym (answered (goal.at.returns-in_err-admit c).After-admit _ c.in_err-admit.ensures)

-- the five figures
pub returns : goal.returns
returns c =
    let given = answered (goal.at.returns c).After-admit _ c.in_ok-admit.ensures in
    rw c.counts_of.ensures (sym given.2)

pub counts_of-requires : goal.counts_of-requires
counts_of-requires c =
    let given = answered (goal.at.counts_of-requires c).After-admit _ c.in_ok-admit.ensures in
    (given.0, given.1)
