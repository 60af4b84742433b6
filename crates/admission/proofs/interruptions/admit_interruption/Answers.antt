-- `admission::interruptions::admit_interruption` meets its contract: each test of the code is that of a line of the table, and they stand in one order.
-- Assumes nothing.
use mathlib.Core.Path.{◌≡◌, refl, sym, ◌∙◌}
use mathlib.Core.Bool.{Bool}
use native.Mathlib.Omega.{arith}
use borrow.Author.Tests.{lt-leb, le-leb}
use lib.IntN.{ℤ}
use lib.Signed.{lt_z}
use mir.Syntax.{w64}
use mir.Val.{SFits, to_z, of_z}
use Rattle.calls.specs.Answers.{first_of}
use Rattle.calls.specs.Call.{starts_after_end, outside_period}
use Rattle.calls.proofs.Times.{back}
use Rattle.ledger.specs.Steps.{interruption_lines}
use Rattle.admission.proofs.interruptions.admit_interruption.Goals as goal

-- the tests of the times, which the code has as bits
module _ {start end : ℤ} (start_fits : SFits w64 start) (end_fits : SFits w64 end) {t : Bool} where
  late : lt_z (to_z w64 (of_z w64 end)) (to_z w64 (of_z w64 start)) ≡ t → starts_after_end start end ≡ t
  unfolding starts_after_end
  late e = rw (back start_fits, back end_fits) at e

  outside : {flag : Bool} → flag ≡ outside_period (to_z w64 (of_z w64 start)) (to_z w64 (of_z w64 end)) → flag ≡ t → outside_period start end ≡ t
  outside told e = sym (rw (back start_fits, back end_fits) at told) ∙ e

-- 4
pub returns-then-operator-gt-LAST_OPERATOR : goal.returns-then-operator-gt-LAST_OPERATOR
unfolding first_of interruption_lines
returns-then-operator-gt-LAST_OPERATOR c = rw (le-leb 16 c.args.operator c.if-operator-gt-LAST_OPERATOR.true) refl

-- 5
pub returns-then-not-valid : goal.returns-then-not-valid
unfolding first_of interruption_lines
returns-then-not-valid c = rw (lt-leb 16 c.args.operator (omega arith), c.if-not-valid.true) refl

-- 14
pub returns-then-end-start : goal.returns-then-end-start
unfolding first_of interruption_lines
returns-then-end-start c =
    rw (lt-leb 16 c.args.operator (omega arith), c.if-not-valid.false, late c.ranges.start c.ranges.end c.if-end-start.true) refl

-- 15
pub returns-then-outside : goal.returns-then-outside
unfolding first_of interruption_lines
returns-then-outside c =
    rw (
      lt-leb 16 c.args.operator (omega arith),
      c.if-not-valid.false,
      late c.ranges.start c.ranges.end c.if-end-start.false,
      outside c.ranges.start c.ranges.end c.is_outside-outside.ensures c.if-outside.true,
    )
    refl

-- 7
pub returns-then-not-member : goal.returns-then-not-member
unfolding first_of interruption_lines
returns-then-not-member c =
    rw (
      lt-leb 16 c.args.operator (omega arith),
      c.if-not-valid.false,
      late c.ranges.start c.ranges.end c.if-end-start.false,
      outside c.ranges.start c.ranges.end c.is_outside-outside.ensures c.if-outside.false,
      sym c.has_bit-member.ensures ∙ c.if-not-member.true,
    )
    refl

-- admitted
pub returns : goal.returns
unfolding first_of interruption_lines
returns c =
    rw (
      lt-leb 16 c.args.operator (omega arith),
      c.if-not-valid.false,
      late c.ranges.start c.ranges.end c.if-end-start.false,
      outside c.ranges.start c.ranges.end c.is_outside-outside.ensures c.if-outside.false,
      sym c.has_bit-member.ensures ∙ c.if-not-member.false,
    )
    refl
