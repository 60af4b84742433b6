-- `weighing::levelled_weight` meets its contract.
-- Assumes nothing.
use mathlib.Core.Path.{◌≡◌, refl, sym, ◌∙◌}
use mathlib.Core.Bool.{false}
use native.Mathlib.Omega.{arith}
use native.Mathlib.Nat.{mul-le-mul}
use borrow.Author.Tests.{eq-eqb, ne_eqb}
use Rattle.calls.specs.Masks.{has}
use Rattle.weighing.proofs.levelled_weight.Goals as goal

-- takes no part
pub returns-then-not-takes_part : goal.returns-then-not-takes_part
returns-then-not-takes_part c =
    let outside : has c.args.mask c.args.operator ≡ false = sym c.has_bit-takes_part.ensures ∙ c.if-not-takes_part.true in
    rw outside refl

-- nobody is better
pub returns-then-g-eq0 : goal.returns-then-g-eq0
returns-then-g-eq0 c = rw (sym c.has_bit-takes_part.ensures ∙ c.if-not-takes_part.false, eq-eqb _ _ c.if-g-eq0.true) refl

-- one of the better
pub returns-then-is_better : goal.returns-then-is_better
returns-then-is_better c = rw (← c.is_better.ensures, c.if-is_better.true, sym c.has_bit-takes_part.ensures ∙ c.if-not-takes_part.false, ne_eqb _ _ c.if-g-eq0.false) refl

pub overflow_mul-result : goal.overflow_mul-result
overflow_mul-result c = record { fits = omega (arith, mul-le-mul c.requires.few c.requires.own_most) }

-- one of the others
pub returns : goal.returns
returns c = rw (← c.is_better.ensures, c.if-is_better.false, sym c.has_bit-takes_part.ensures ∙ c.if-not-takes_part.false, ne_eqb _ _ c.if-g-eq0.false) refl
