-- `apportion::award_units` meets its contract. The loop's invariant: handing out what is left now ends as handing out all at the start.
-- Assumes nothing.
use borrow.Author.Rules.{rules}
use mathlib.Core.Path.{◌≡◌, sym, ap, ◌∙◌}
use mathlib.Core.List.{List}
use Prim.Native.Nat.{ℕ, ◌+◌, ◌-◌}
use native.Mathlib.Omega.{arith}
use lib.ListN.{length, get_or, length-map, length-set, get_or-map}
use Rattle.std.proofs.lemmas.List.{map-set}
use Rattle.exact.specs.declared.Division.{Division}
use Rattle.apportion.specs.Share.{award}
use Rattle.apportion.specs.Steps.{quotients, spare}
use Rattle.apportion.proofs.Sums.{element-le, sum-set}
use Rattle.apportion.proofs.Awarded.{award-step}
use Rattle.apportion.proofs.award_units.Goals as goal

-- the quotient at a place, as the code reads it
quotient-at : (places : List Division) (k : ℕ) → get_or (quotients places) k 0 ≡ (get_or places k (record { quotient = 0; remainder = 0 })).quotient
quotient-at places k = get_or-map (λ (d : Division). d.quotient) places k (record { quotient = 0; remainder = 0 })

pub loop-init : goal.loop-init
loop-init c =
    let long : length c.args.divisions ≡ 16 = search rules in
    let all : c.args.units - 0 ≡ c.args.units = omega arith in
    record {
      shares_long = length-map c.args.divisions _ ∙ long;
      remaining_long = length-map c.args.divisions _ ∙ long;
      units_kept = omega arith;
      ends_alike = ap (λ (n : ℕ). award c.args.sizes n (spare c.args.divisions) (quotients c.args.divisions)) all;
    }

pub overflow_add-places : goal.overflow_add-places
overflow_add-places c =
    let place = c.foremost_place-place.result in
    omega (arith, element-le (quotients c.loop.places) place, quotient-at c.loop.places place)

pub loop-preserved : goal.loop-preserved
loop-preserved c =
    let here = c.loop in
    let place = c.foremost_place-place.result in
    let left = c.args.units - here.counter in
    let shares = quotients here.places in
    let remaining = spare here.places in
    let given = here.invariant in
    let less : c.args.units - (here.counter + 1) ≡ left - 1 = omega arith in
    rw (map-set (λ (d : Division). d.quotient), map-set (λ (d : Division). d.remainder), sym (quotient-at here.places place))
    (record {
      shares_long = length-set shares place _ ∙ given.shares_long;
      remaining_long = length-set remaining place _ ∙ given.remaining_long;
      units_kept = omega (arith, given.units_kept, sum-set shares place (get_or shares place 0 + 1) (omega arith));
      ends_alike =
          rw less (award-step left 16 place c.args.sizes remaining shares (omega arith) given.remaining_long c.foremost_place-place.ensures.0)
          ∙ given.ends_alike;
    })

pub returns : goal.returns
unfolding award
returns c =
    let last : c.args.units - c.loop.counter ≡ 0 = omega arith in
    c.quotients.ensures ∙ (rw last at c.loop.invariant.ends_alike)
