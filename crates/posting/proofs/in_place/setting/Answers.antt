-- `posting::in_place::setting` meets its contract.
-- Assumes nothing.
use mathlib.Core.Path.{refl, sym, ◌∙◌}
use native.Mathlib.Omega.{arith}
use Rattle.calls.specs.declared.Call.TheVariants.{Setting}
use Rattle.calls.specs.Indicators.{indicators_of}
use Rattle.calls.specs.Call.{facts_of}
use Rattle.ledger.specs.Calls.{changed}
use Rattle.calls.proofs.RangeLaws.{ranges}
use Rattle.ledger.proofs.AdmissionLaws.{member-decided}
use Rattle.posting.proofs.AnswerLaws.{refused-as}
use Rattle.posting.proofs.in_place.setting.Goals as goal

-- 4, 5 or 7
pub returns-in_err-admit : goal.returns-in_err-admit
unfolding facts_of
returns-in_err-admit c =
    rw (refused-as _ _ _ c.from_residual.ensures.1, member-decided (indicators_of c.args.kind) c.args.b.now (Setting c.args.operator c.args.which c.args.value) c.args.operator _ refl refl refl (sym c.setting_in_range.ensures) refl refl _ (sym c.in_err-admit.ensures)) (refl, refl)

pub setting_slot-at-requires : goal.setting_slot-at-requires
unfolding facts_of
setting_slot-at-requires c =
    let passed = member-decided (indicators_of c.args.kind) c.args.b.now (Setting c.args.operator c.args.which c.args.value) c.args.operator _ refl refl refl (sym c.setting_in_range.ensures) refl refl _ (sym c.in_ok-admit.ensures) in
    let within_range = ranges (indicators_of c.args.kind) (Setting c.args.operator c.args.which c.args.value) (sym c.setting_in_range.ensures ∙ passed.within_range) refl in
    (omega (arith, passed.small, within_range.0), within_range.0)

-- stored
pub returns : goal.returns
unfolding facts_of changed
returns c =
    let passed = member-decided (indicators_of c.args.kind) c.args.b.now (Setting c.args.operator c.args.which c.args.value) c.args.operator _ refl refl refl (sym c.setting_in_range.ensures) refl refl _ (sym c.in_ok-admit.ensures) in
    rw (passed.done refl, c.setting_slot-at.ensures.0) (refl, refl)
