-- `posting::in_place::mark_indicator` meets its contract.
-- Assumes nothing.
use mathlib.Core.Path.{refl, sym, ◌∙◌}
use native.Mathlib.Omega.{arith}
use Rattle.calls.specs.declared.Call.TheVariants.{Mark}
use Rattle.calls.specs.Indicators.{indicators_of}
use Rattle.calls.specs.Call.{facts_of}
use Rattle.ledger.specs.Calls.{changed}
use Rattle.calls.proofs.RangeLaws.{ranges}
use Rattle.ledger.proofs.AdmissionLaws.{member-decided}
use Rattle.posting.proofs.AnswerLaws.{refused-as}
use Rattle.posting.proofs.in_place.mark_indicator.Goals as goal

-- 4, 5 or 7
pub returns-in_err-admit : goal.returns-in_err-admit
unfolding facts_of
returns-in_err-admit c =
    rw (refused-as _ _ _ c.from_residual.ensures.1, member-decided (indicators_of c.args.kind) c.args.b.now (Mark c.args.operator c.args.indicator c.args.mark) c.args.operator _ refl refl refl (sym c.mark_in_range.ensures) refl refl _ (sym c.in_err-admit.ensures)) (refl, refl)

pub bounds-b-at : goal.bounds-b-at
unfolding facts_of
bounds-b-at c =
    let passed = member-decided (indicators_of c.args.kind) c.args.b.now (Mark c.args.operator c.args.indicator c.args.mark) c.args.operator _ refl refl refl (sym c.mark_in_range.ensures) refl refl _ (sym c.in_ok-admit.ensures) in
    let within_range = ranges (indicators_of c.args.kind) (Mark c.args.operator c.args.indicator c.args.mark) (sym c.mark_in_range.ensures ∙ passed.within_range) refl in
    omega (arith, within_range)

pub remask-requires : goal.remask-requires
unfolding facts_of
remask-requires c =
    let passed = member-decided (indicators_of c.args.kind) c.args.b.now (Mark c.args.operator c.args.indicator c.args.mark) c.args.operator _ refl refl refl (sym c.mark_in_range.ensures) refl refl _ (sym c.in_ok-admit.ensures) in
    let within_range = ranges (indicators_of c.args.kind) (Mark c.args.operator c.args.indicator c.args.mark) (sym c.mark_in_range.ensures ∙ passed.within_range) refl in
    passed.small

pub bounds-b-at-2 : goal.bounds-b-at-2
unfolding facts_of
bounds-b-at-2 c =
    let passed = member-decided (indicators_of c.args.kind) c.args.b.now (Mark c.args.operator c.args.indicator c.args.mark) c.args.operator _ refl refl refl (sym c.mark_in_range.ensures) refl refl _ (sym c.in_ok-admit.ensures) in
    let within_range = ranges (indicators_of c.args.kind) (Mark c.args.operator c.args.indicator c.args.mark) (sym c.mark_in_range.ensures ∙ passed.within_range) refl in
    omega (arith, within_range)

pub returns : goal.returns
unfolding facts_of changed
returns c =
    let passed = member-decided (indicators_of c.args.kind) c.args.b.now (Mark c.args.operator c.args.indicator c.args.mark) c.args.operator _ refl refl refl (sym c.mark_in_range.ensures) refl refl _ (sym c.in_ok-admit.ensures) in
    rw (passed.done refl, c.remask.ensures) (refl, refl)
