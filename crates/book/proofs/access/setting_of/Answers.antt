-- `book::access::setting_of` meets its contract.
-- Assumes nothing.
use native.Mathlib.Omega.{arith}
use borrow.Author.Tests.{lt-ltb, le-ltb}
use Rattle.calls.specs.Limits.{operators, setting_count}
use Rattle.book.specs.Book.{setting_of}
use Rattle.book.proofs.access.setting_of.Goals as goal
use Rattle.book.proofs.access.setting_of.Goals.{then-operator-gt-LAST_OPERATOR-via-then-operator-gt-LAST_OPERATOR, then-operator-gt-LAST_OPERATOR-via-else-operator-gt-LAST_OPERATOR+then-which-gt-LAST_SETTING}

-- no such operator or setting
pub returns-then-operator-gt-LAST_OPERATOR : goal.returns-then-operator-gt-LAST_OPERATOR
returns-then-operator-gt-LAST_OPERATOR c =
    elim c.then-operator-gt-LAST_OPERATOR.branch [
      | then-operator-gt-LAST_OPERATOR-via-then-operator-gt-LAST_OPERATOR w ↦ simp (le-ltb c.args.operator operators w.if-operator-gt-LAST_OPERATOR.true)
      | then-operator-gt-LAST_OPERATOR-via-else-operator-gt-LAST_OPERATOR+then-which-gt-LAST_SETTING w ↦ simp (lt-ltb c.args.operator operators (omega arith), le-ltb c.args.which setting_count w.if-which-gt-LAST_SETTING.true)
    ]

-- found
pub returns : goal.returns
unfolding setting_of
returns c = simp (lt-ltb c.args.operator operators (omega arith), lt-ltb c.args.which setting_count (omega arith), c.setting_slot.ensures.0)
