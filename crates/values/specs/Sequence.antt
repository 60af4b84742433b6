-- The first two steps of annex 9, 4.2.1. All five in turn, with the other three, stand in crates/indicators/specs/Sequence.antt.
-- Assumes nothing.
use Rattle.std.specs.Prelude.{ℕ, ◌+◌, cond, List, [], get_or}
use Rattle.calls.specs.Limits.{years}
use Rattle.calls.specs.Indicators.{Measure}
use Rattle.calls.specs.Masks.{has}
use Rattle.book.specs.declared.Book.{Book}
use Rattle.values.specs.Operators.{table, each}
use Rattle.values.specs.Indicator.{yearly_values}

-- 1. "de jaarlijkse waarden", the yearly values: each year's by operator, also of those that take no part
unfoldable pub values_by_year : Book → Measure → List (List ℕ)
values_by_year b measure = table years (yearly_values b measure)

-- 2. "rekenkundig gemiddelde van de jaarlijkse waarden", the mean of the yearly values. Here 01 decides, and takes their sum: a mean would have to
-- be rounded. Whoever is outside the mask, and takes no part, has 0, so that neither the largest nor the mean of all is moved by it.
unfoldable pub sums_of_years : ℕ → List (List ℕ) → List ℕ
sums_of_years mask values =
    let value : ℕ → ℕ → ℕ = λ year operator. get_or (get_or values year []) operator 0 in
    each (λ (operator : ℕ). cond (has mask operator) (value 0 operator + value 1 operator + value 2 operator) 0)
