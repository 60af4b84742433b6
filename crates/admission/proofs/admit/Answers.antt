-- `admission::admit` meets its contract.
-- Assumes nothing.
use mathlib.Core.Path.{refl, sym, ◌∙◌}
use native.Mathlib.Omega.{arith}
use borrow.Author.Tests.{lt-leb, le-leb}
use Rattle.calls.specs.Answers.{first_of}
use Rattle.ledger.specs.Steps.{member_lines}
use Rattle.admission.proofs.admit.Goals as goal

-- 4
pub returns-then-operator-gt-LAST_OPERATOR : goal.returns-then-operator-gt-LAST_OPERATOR
unfolding member_lines first_of
returns-then-operator-gt-LAST_OPERATOR c = rw (le-leb 16 c.args.operator c.if-operator-gt-LAST_OPERATOR.true) refl

-- 5
pub returns-then-not-valid : goal.returns-then-not-valid
unfolding member_lines first_of
returns-then-not-valid c = rw (lt-leb 16 c.args.operator (omega arith), c.if-not-valid.true) refl

-- 7
pub returns-then-not-member : goal.returns-then-not-member
unfolding member_lines first_of
returns-then-not-member c =
    rw (
      lt-leb 16 c.args.operator (omega arith),
      c.if-not-valid.false,
      sym c.has_bit-member.ensures ∙ c.if-not-member.true,
    )
    refl

-- admitted
pub returns : goal.returns
unfolding member_lines first_of
returns c =
    rw (
      lt-leb 16 c.args.operator (omega arith),
      c.if-not-valid.false,
      sym c.has_bit-member.ensures ∙ c.if-not-member.false,
    )
    refl
