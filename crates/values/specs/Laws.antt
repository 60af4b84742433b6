-- What holds of the fees of a year in every book in range. The proof is `fees-weigh` of proofs/FeeLaws.antt.
-- Assumes nothing.
use Rattle.std.specs.Prelude.{ℕ, ◌*◌, ◌/◌, ◌<◌, ◌≡◌, true}
use Rattle.calls.specs.Limits.{years}
use Rattle.calls.specs.Indicators.{fee}
use Rattle.book.specs.declared.Book.{Book}
use Rattle.book.specs.Book.{figure_of, index_of, within_limits}
use Rattle.values.specs.Indicator.{fee_divisor, yearly_value}

-- the value that the fees of an operator's year come to
pub record FeeDivided (b : Book) (fees connections operator year : ℕ) : Type 0 where
  -- the divisor is above 0,
  pub divisor_positive : 0 < fee_divisor b connections operator year
  -- so that no fee meets the rule for a zero divisor;
  pub divided : yearly_value b (fee fees connections) operator year ≡ 10 * figure_of b operator year fees * index_of b 3 / fee_divisor b connections operator year
  -- with no connection made the year's index divides by itself
  pub none_made : figure_of b operator year connections ≡ 0
      → yearly_value b (fee fees connections) operator year ≡ 10 * figure_of b operator year fees * index_of b 3 / index_of b year

-- "fees paid in a year with no connection made do weigh" (02, point 6): in every book within its limits, so in one in range of either kind
abbrev pub FeesWeigh : Type 0
FeesWeigh = (b : Book) → within_limits b ≡ true → (fees connections operator year : ℕ) → year < years → FeeDivided b fees connections operator year
