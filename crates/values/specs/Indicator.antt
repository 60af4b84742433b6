-- What an indicator measures in a year, its pool, and who takes part (01, "Indicators"; annex 9).
-- Assumes nothing.
use Rattle.std.specs.Prelude.{ℕ, ◌+◌, ◌*◌, ◌-◌, cond, List, [], ◌∷◌, eqb, get_or}
use Rattle.std.specs.Int.Bits.{bit_and}
use Rattle.std.specs.Int.Count.{ones}
use Rattle.exact.specs.Division.{over}
use Rattle.book.specs.declared.Book.{Book}
use Rattle.book.specs.Book.{figure_of, setting_of, index_of}
use Rattle.calls.specs.Indicators.{Measure, frequency, duration, fee, Indicator, indicator, electricity}
use Rattle.calls.specs.Masks.{has}
use Rattle.values.specs.Operators.{each}

-- "For D1 and D2 a count of 0 is now taken as 1" (02, point 6)
unfoldable pub count_or_one : ℕ → ℕ
count_or_one count = cond (eqb count 0) 1 count

-- what the fees of a year are divided by: the count of connections, so taken, times the year's index
unfoldable pub fee_divisor : Book → ℕ → ℕ → ℕ → ℕ
fee_divisor b connections operator year = count_or_one (figure_of b operator year connections) * index_of b year

-- the yearly value of an operator, "rounded down; a zero divisor gives 0"; "The A indicators keep their zero rule" (02, point 6)
unfoldable pub yearly_value : Book → Measure → ℕ → ℕ → ℕ
yearly_value b (frequency figure which) operator year = over (1000000 * figure_of b operator year figure) (setting_of b operator (which year))
yearly_value b (duration seconds weight) operator year = over (1000 * figure_of b operator year seconds) (figure_of b operator year weight)
yearly_value b (fee fees connections) operator year =
    over (10 * figure_of b operator year fees * index_of b 3) (fee_divisor b connections operator year)

-- the yearly values of a measure, by operator
abbrev pub yearly_values : Book → Measure → ℕ → List ℕ
yearly_values b measure year = each (λ (operator : ℕ). yearly_value b measure operator year)

-- "An operator's s is the sum of its three yearly values"
unfoldable pub three_years : Book → Measure → ℕ → ℕ
three_years b measure operator = yearly_value b measure operator 0 + yearly_value b measure operator 1 + yearly_value b measure operator 2

-- the operators that take part, as bits: joined and without a mark
unfoldable pub reliable_mask : Book → Indicator → ℕ
reliable_mask b indicator = bit_and b.joined (65535 - get_or b.marks indicator.number 0)

-- the s of those that take part; "Marked operators get 0 and count nowhere else"
unfoldable pub scores : Book → Indicator → List ℕ
scores b indicator = each (λ (operator : ℕ). cond (has (reliable_mask b indicator) operator) (three_years b indicator.measure operator) 0)

-- "Let n be the number of joined operators, m of those without a mark at this indicator. Pool, in hundredths: 300 × points × m / n, rounded
-- down"
unfoldable pub pool : Book → Indicator → ℕ
pool b indicator = over (300 * indicator.points * ones (reliable_mask b indicator)) (ones b.joined)

-- the indicator that has a number in a list; where none has it, one without points
unfoldable pub numbered_in : List Indicator → ℕ → Indicator
numbered_in [] number = indicator number 0 (fee 6 7)
numbered_in (i ∷ rest) number = cond (eqb i.number number) i (numbered_in rest number)

unfoldable pub numbered : ℕ → Indicator
numbered number = numbered_in electricity number
