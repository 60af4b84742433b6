-- `book::access::figure_of` meets its contract.
-- Assumes nothing.
use native.Mathlib.Omega.{arith}
use borrow.Author.Tests.{lt-ltb, le-ltb}
use Rattle.calls.specs.Limits.{operators, years, figure_count}
use Rattle.book.specs.Book.{figure_of}
use Rattle.book.proofs.access.figure_of.Goals as goal
use Rattle.book.proofs.access.figure_of.Goals.{then-operator-gt-LAST_OPERATOR-via-then-operator-gt-LAST_OPERATOR, then-operator-gt-LAST_OPERATOR-via-else-operator-gt-LAST_OPERATOR+then-year-gt-LAST_YEAR, then-operator-gt-LAST_OPERATOR-via-else-operator-gt-LAST_OPERATOR+else-year-gt-LAST_YEAR+then-figure-gt-LAST_FIGURE}

-- no such operator, year or figure
pub returns-then-operator-gt-LAST_OPERATOR : goal.returns-then-operator-gt-LAST_OPERATOR
returns-then-operator-gt-LAST_OPERATOR c =
    elim c.then-operator-gt-LAST_OPERATOR.branch [
      | then-operator-gt-LAST_OPERATOR-via-then-operator-gt-LAST_OPERATOR w ↦ simp (le-ltb c.args.operator operators w.if-operator-gt-LAST_OPERATOR.true)
      | then-operator-gt-LAST_OPERATOR-via-else-operator-gt-LAST_OPERATOR+then-year-gt-LAST_YEAR w ↦ simp (lt-ltb c.args.operator operators (omega arith), le-ltb c.args.year years w.if-year-gt-LAST_YEAR.true)
      | then-operator-gt-LAST_OPERATOR-via-else-operator-gt-LAST_OPERATOR+else-year-gt-LAST_YEAR+then-figure-gt-LAST_FIGURE w ↦ simp (lt-ltb c.args.operator operators (omega arith), lt-ltb c.args.year years (omega arith), le-ltb c.args.figure figure_count w.if-figure-gt-LAST_FIGURE.true)
    ]

-- found
pub returns : goal.returns
unfolding figure_of
returns c = simp (lt-ltb c.args.operator operators (omega arith), lt-ltb c.args.year years (omega arith), lt-ltb c.args.figure figure_count (omega arith), c.figure_slot.ensures.0)
