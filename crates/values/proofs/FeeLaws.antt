-- A count of connections, or 1; and the divisor of fees, above 0 in a book in range (specs/Laws.antt, `FeesWeigh`).
-- Assumes nothing.
use Prim.Native.Nat.{ℕ, ◌*◌, ◌<◌, max}
use mathlib.Core.Path.{◌≡◌, refl, ap, ◌∙◌}
use mathlib.Core.Bool.{Bool, true, cond}
use native.Mathlib.Nat.{mul-pos, one-mul}
use native.Mathlib.Omega.{arith}
use native.Mathlib.Decide.{ℕ_discrete}
use borrow.Author.Tests.{ne_eqb}
use Rattle.calls.specs.Limits.{years}
use Rattle.book.specs.declared.Book.{Book}
use Rattle.book.specs.Book.{figure_of, index_of, within_limits}
use Rattle.book.proofs.Bounds.{bounded}
use Rattle.values.specs.Indicator.{count_or_one, fee_divisor, yearly_value}
use Rattle.values.specs.Laws.{FeesWeigh}
use Rattle.values.proofs.Scores.{over-some}

pub none-as-one : count_or_one 0 ≡ 1
unfolding count_or_one
none-as-one = refl

pub some-as-counted : (count : ℕ) → (count ≡ 0 → ⊥) → count_or_one count ≡ count
unfolding count_or_one
some-as-counted count some = ap (λ (none : Bool). cond none 1 count) (ne_eqb count 0 some)

-- the larger of a count and 1
pub larger-of-one : (count : ℕ) → max count 1 ≡ count_or_one count
larger-of-one count = go (ℕ_discrete count 0)
  where
    go : Dec (count ≡ 0) → max count 1 ≡ count_or_one count
    go (yes none) = rw (none, none-as-one) refl
    go (no some) = rw (some-as-counted count some) (omega (arith, some))

-- what holds of 1, and of a count that is not 0, holds of either
of_either : (Holds : ℕ → Type 0) (count : ℕ) → Holds 1 → ((count ≡ 0 → ⊥) → Holds count) → Holds (count_or_one count)
of_either Holds count one other = go (ℕ_discrete count 0)
  where
    go : Dec (count ≡ 0) → Holds (count_or_one count)
    go (yes none) = rw (none, none-as-one) one
    go (no some) = rw (some-as-counted count some) (other some)

index-above : (b : Book) → within_limits b ≡ true → (year : ℕ) → year < years → 0 < index_of b year
unfolding index_of
index-above b ranged year ly = omega (arith, ((bounded b ranged).indices.within year (omega arith)).0)

pub fees-weigh : FeesWeigh
unfolding yearly_value fee_divisor
fees-weigh b ranged fees connections operator year ly =
    let counted = of_either (λ (n : ℕ). 0 < n) (figure_of b operator year connections) (omega arith) (λ some. omega (arith, some)) in
    let above = mul-pos counted (index-above b ranged year ly) in
    let whole = over-some (10 * figure_of b operator year fees * index_of b 3) _ above in
    record { divisor_positive = above; divided = whole; none_made = λ none. whole ∙ rw (none, none-as-one, one-mul) refl }
