-- The scores of an indicator, one for each operator, are the first two steps of annex 9, 4.2.1, in turn; and their bounds in a book in range.
-- Assumes nothing.
use Prim.Native.Nat.{ℕ, ◌/◌, ◌≤◌, ◌<◌, zero-le}
use native.Mathlib.Nat.{div-le_self, mul-le-mul, le_trans}
use native.Mathlib.Omega.{arith}
use native.Mathlib.Decide.{dec_lt}
use mathlib.Core.Path.{◌≡◌, refl}
use mathlib.Core.List.{List, []}
use lib.Dec.{eqb}
use borrow.Author.Tests.{ne_eqb}
use lib.ListN.{length, get_or, get_or-eq_default}
use Rattle.calls.specs.Limits.{operators, years, figure_count, indicator_count}
use Rattle.calls.specs.Masks.{has}
use Rattle.book.specs.declared.Book.{Book}
use Rattle.exact.specs.Division.{over}
use Rattle.calls.specs.Indicators.{frequency, duration, fee, Indicator, electricity}
use Rattle.values.specs.Indicator.{numbered, yearly_value, yearly_values, three_years, reliable_mask, scores}
use Rattle.values.proofs.CountLaws.{cond-le}
use Rattle.values.specs.Sequence.{values_by_year, sums_of_years}
use Rattle.values.specs.Steps.{YearsWithin}
use Rattle.values.specs.Operators.{table}
use Rattle.values.proofs.Tables.{length-table, table_at, each_at, each_same, each-le}
use Rattle.values.specs.Bounds.{yearly_most, score_most, Within}
use Rattle.values.proofs.Numbered.{of-numbered}

pub over-le : (dividend divisor : ℕ) → over dividend divisor ≤ dividend
unfolding over
over-le dividend divisor = cond-le (eqb divisor 0) zero-le (div-le_self dividend divisor)

pub over-some : (dividend divisor : ℕ) → 0 < divisor → over dividend divisor ≡ dividend / divisor
unfolding over
over-some dividend divisor pos = rw (ne_eqb divisor 0 (λ e. omega (arith, e, pos))) refl

-- the sums of the yearly values are the scores
pub scores-in-turn : (b : Book) (indicator : Indicator) → sums_of_years (reliable_mask b indicator) (values_by_year b indicator.measure) ≡ scores b indicator
unfolding values_by_year sums_of_years scores three_years table
scores-in-turn b indicator =
    let value : ℕ → ℕ → ℕ = λ year k. yearly_value b indicator.measure k year in
    each_same _ _ (λ k lt. rw (each_at (value 0) k lt, each_at (value 1) k lt, each_at (value 2) k lt) refl)

pub sums_within : (mask : ℕ) (values : List (List ℕ)) → YearsWithin values → (place : ℕ) → get_or (sums_of_years mask values) place 0 ≤ score_most
unfolding sums_of_years
sums_within mask values small =
    each-le _ _ (λ operator lo. cond-le (has mask operator) (omega (arith, small 0 operator, small 1 operator, small 2 operator)) zero-le)

module _ (b : Book) (small : Within b) where
  module _ (operator year : ℕ) (lo : operator < operators) (ly : year < years) where
    frequency-le : (figure : ℕ) (which : ℕ → ℕ) → figure < figure_count → yearly_value b (frequency figure which) operator year ≤ yearly_most
    unfolding yearly_value
    frequency-le figure which lf = le_trans (over-le _ _) (omega (arith, small.figures_within operator year figure lo ly lf))

    duration-le : (seconds weight : ℕ) → seconds < figure_count → yearly_value b (duration seconds weight) operator year ≤ yearly_most
    unfolding yearly_value
    duration-le seconds weight lf = le_trans (over-le _ _) (omega (arith, small.figures_within operator year seconds lo ly lf))

    fee-le : (fees connections : ℕ) → fees < figure_count → yearly_value b (fee fees connections) operator year ≤ yearly_most
    unfolding yearly_value
    fee-le fees connections lf =
        let product = mul-le-mul (small.figures_within operator year fees lo ly lf) (small.indices_within 3 (omega arith)) in
        le_trans (over-le _ _) (omega (arith, product))

    yearly-le : (number : ℕ) → number < indicator_count → yearly_value b (numbered number).measure operator year ≤ yearly_most
    unfolding electricity
    yearly-le =
        of-numbered (λ number indicator. yearly_value b indicator.measure operator year ≤ yearly_most)
        (frequency-le 0 _ (omega arith), (duration-le 1 0 (omega arith), (frequency-le 2 _ (omega arith), (duration-le 3 2 (omega arith), (fee-le 4 5 (omega arith), (fee-le 6 7 (omega arith), tt))))))

  module _ (number : ℕ) (ln : number < indicator_count) where
    -- the same of a year's values, by operator, and of all three
    yearlies-le : (year : ℕ) → year < years → (k : ℕ) → get_or (yearly_values b (numbered number).measure year) k 0 ≤ yearly_most
    yearlies-le year ly = each-le _ _ (λ k lt. yearly-le k year lt ly number ln)

    pub years-within : YearsWithin (values_by_year b (numbered number).measure)
    unfolding values_by_year
    years-within year operator = go (dec_lt year years)
      where
        values : ℕ → List ℕ
        values = yearly_values b (numbered number).measure

        go : Dec (year < years) → get_or (get_or (table years values) year []) operator 0 ≤ yearly_most
        go (yes inside) = rw (table_at values years year [] inside) (yearlies-le year inside operator)
        go (no outside) =
            let past : length (table years values) ≤ year = omega (arith, length-table values years, outside) in
            rw (get_or-eq_default (table years values) [] past) zero-le

    -- no score passes three years of the largest yearly value
    pub scored : (place : ℕ) → get_or (scores b (numbered number)) place 0 ≤ score_most
    scored = rw (scores-in-turn b (numbered number)) at (sums_within (reliable_mask b (numbered number)) _ years-within)
