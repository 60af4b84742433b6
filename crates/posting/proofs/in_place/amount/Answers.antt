-- `posting::in_place::amount` meets its contract.
-- Assumes nothing.
use mathlib.Core.Path.{refl, sym, ◌∙◌}
use Rattle.calls.specs.declared.Call.TheVariants.{Amount}
use Rattle.calls.specs.Answers.{yes_said}
use Rattle.calls.specs.Indicators.{indicators_of}
use Rattle.calls.specs.Call.{facts_of}
use Rattle.ledger.specs.Calls.{changed}
use Rattle.calls.proofs.RangeLaws.{ranges}
use Rattle.ledger.proofs.AdmissionLaws.{member-decided}
use Rattle.posting.proofs.AnswerLaws.{refused-as, yes-or-said}
use Rattle.posting.proofs.in_place.amount.Goals as goal

-- 4, 5 or 7
pub returns-in_err-admit : goal.returns-in_err-admit
unfolding facts_of
returns-in_err-admit c =
    rw (refused-as _ _ _ c.from_residual.ensures.1, member-decided (indicators_of c.args.kind) c.args.b.now (Amount c.args.operator c.args.year c.args.figure c.args.sign c.args.value) c.args.operator _ refl refl refl (sym c.amount_in_range.ensures) refl refl _ (sym c.in_err-admit.ensures)) (refl, refl)

pub invariant_of-one : goal.invariant_of-one
unfolding facts_of
invariant_of-one c =
    let passed = member-decided (indicators_of c.args.kind) c.args.b.now (Amount c.args.operator c.args.year c.args.figure c.args.sign c.args.value) c.args.operator _ refl refl refl (sym c.amount_in_range.ensures) refl refl _ (sym c.in_ok-admit.ensures) in
    let within_range = ranges (indicators_of c.args.kind) (Amount c.args.operator c.args.year c.args.figure c.args.sign c.args.value) (sym c.amount_in_range.ensures ∙ passed.within_range) refl in
    record { in_range = record { operator_known = passed.small; year_known = within_range.0; figure_known = within_range.1; sign_most = within_range.2 } }

-- entered, 8 or 9
pub returns : goal.returns
unfolding facts_of changed
returns c =
    let passed = member-decided (indicators_of c.args.kind) c.args.b.now (Amount c.args.operator c.args.year c.args.figure c.args.sign c.args.value) c.args.operator _ refl refl refl (sym c.amount_in_range.ensures) refl refl _ (sym c.in_ok-admit.ensures) in
    rw (yes-or-said, passed.entered refl) (c.enter.ensures yes_said)
