-- `apportion::foremost_place` meets its contract. The loop's invariant: best is the claim of the foremost of the places passed.
-- Assumes nothing.
use mathlib.Core.Path.{◌≡◌, refl, sym, ap, ◌∙◌}
use mathlib.Core.Bool.{true, false}
use native.Mathlib.Omega.{arith}
use Rattle.apportion.specs.declared.Claim.{Claim}
use Rattle.apportion.specs.Share.{foremost}
use Rattle.apportion.specs.Steps.{spare, claim_at}
use Rattle.apportion.proofs.Order.{foremost-one, foremost-more, foremost-lt}
use Rattle.apportion.proofs.foremost_place.Goals as goal
use Rattle.apportion.proofs.foremost_place.Goals.{then-precedes, else-precedes}

pub loop-i-init : goal.loop-i-init
loop-i-init c =
    let sizes = c.args.sizes.now in
    let divisions = c.args.places.now in
    c.claim_of-best.ensures ∙ ap (claim_at divisions sizes) (sym (foremost-one sizes (spare divisions)))

pub loop-i-preserved : goal.loop-i-preserved
loop-i-preserved c =
    let here = c.loop-i in
    let sizes = c.args.sizes.now in
    let divisions = c.args.places.now in
    let tested = rw (c.claim_of-next.ensures, here.invariant) at c.precedes.ensures in
    let next = foremost-more sizes (spare divisions) (foremost sizes (spare divisions) here.i) here.i in
    elim c.if-precedes.branch [
      | then-precedes w ↦ w.best-is ∙ c.claim_of-next.ensures ∙ ap (claim_at divisions sizes) (sym (next true refl (sym tested ∙ w.if-precedes.true)))
      | else-precedes w ↦ w.best-is ∙ here.invariant ∙ ap (claim_at divisions sizes) (sym (next false refl (sym tested ∙ w.if-precedes.false)))
    ]

pub returns : goal.returns
returns c =
    let sizes = c.args.sizes.now in
    let remaining = spare c.args.places.now in
    let last : c.loop-i.i ≡ 16 = omega arith in
    let found : c.loop-i.best.place ≡ foremost sizes remaining 16 = ap (λ (best : Claim). best.place) c.loop-i.invariant ∙ ap (foremost sizes remaining) last in
    (found, rw found (foremost-lt sizes remaining 16 (omega arith)))
