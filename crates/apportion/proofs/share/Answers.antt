-- `apportion::share` meets its contract: its calls follow the definition's parts.
-- Assumes nothing.
use mathlib.Core.Path.{◌≡◌, refl, sym, ◌∙◌, ap}
use Prim.Native.Nat.{ℕ, ◌<◌}
use native.Mathlib.Omega.{arith}
use lib.ListN.{length, replicate}
use Rattle.apportion.specs.Sum.{sum}
use Rattle.apportion.proofs.Sums.{element-le}
use Rattle.apportion.proofs.Fill.{constant}
use Rattle.apportion.proofs.Shared.{share-none, share-some, floors-below}
use borrow.Author.Rules.{rules}
use Rattle.apportion.proofs.share.Goals as goal

pub returns-then-s-eq0 : goal.returns-then-s-eq0
returns-then-s-eq0 c =
    let long : length c.args.weights ≡ 16 = search rules in
    let none : sum c.args.weights ≡ 0 = omega (arith, c.sum_of-s.ensures, c.if-s-eq0.true) in
    sym (share-none c.args.t c.args.weights c.args.sizes none ∙ (sym (constant c.args.weights 0) ∙ ap (λ (n : ℕ). replicate n 0) long))

pub divide_each-places-requires : goal.divide_each-places-requires
divide_each-places-requires c = record {
  divisor_is = c.sum_of-s.ensures;
  each = λ i lt. record {
    divisor_positive = omega arith;
    part = omega (arith, element-le c.args.weights i);
    divisor_small = omega arith;
    factor_small = omega arith;
  };
}

pub sum_of-whole-requires : goal.sum_of-whole-requires
sum_of-whole-requires c =
    omega (
      arith,
      floors-below c.args.t c.args.weights _ _ c.sum_of-s.ensures c.if-s-eq0.false
          (c.quotients.ensures ∙ c.divide_each-places.ensures.0),
    )

pub overflow_sub-t : goal.overflow_sub-t
overflow_sub-t c =
    omega (
      arith,
      c.sum_of-whole.ensures,
      floors-below c.args.t c.args.weights _ _ c.sum_of-s.ensures c.if-s-eq0.false
          (c.quotients.ensures ∙ c.divide_each-places.ensures.0),
    )

pub award_units-requires : goal.award_units-requires
award_units-requires c =
    let fits = overflow_sub-t c in
    omega (arith, c.sum_of-whole.ensures, ap sum c.quotients.ensures, fits)

pub returns : goal.returns
returns c =
    let some : 0 < sum c.args.weights = omega (arith, c.sum_of-s.ensures, c.if-s-eq0.false) in
    let divisions = c.divide_each-places.ensures in
    rw (share-some c.args.t c.args.weights c.args.sizes some)
    (c.award_units.ensures ∙ rw (c.sum_of-whole.ensures, c.quotients.ensures, divisions.0, divisions.1) refl)
