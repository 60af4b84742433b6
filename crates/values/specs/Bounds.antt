-- The most that what is worked out from a book in range can come to, each by the limits that it comes from. Contracts and proofs that
-- need room in 64 bits cite these.
-- Assumes nothing.
use Rattle.std.specs.Prelude.{ℕ, ◌*◌, ◌/◌, ◌≤◌, ◌<◌, max}
use Rattle.calls.specs.Limits.{operators, years, setting_count, figure_count, index_count, indicator_count, setting_limit, figure_limit, rate_limit, index_most}
use Rattle.book.specs.declared.Book.{Book}
use Rattle.book.specs.Book.{setting_of, figure_of, index_of}

-- active access points and income of an operator
abbrev pub access_limit : ℕ
access_limit = setting_limit 1

abbrev pub income_limit : ℕ
income_limit = setting_limit 2

-- a yearly value: the most that is divided, for A indicators and for D indicators
abbrev pub yearly_most : ℕ
yearly_most = max (1000000 * figure_limit) (10 * figure_limit * index_most)

abbrev pub score_most : ℕ
score_most = years * yearly_most

-- points a year: A1's
abbrev pub points_most : ℕ
points_most = 154

-- a pool, which none of its shares passes, in hundredths, and an operator's points of all indicators
abbrev pub pool_most : ℕ
pool_most = 300 * points_most * operators

abbrev pub total_most : ℕ
total_most = indicator_count * pool_most

-- money in cents: the pot, and an operator's limit
abbrev pub pot_most : ℕ
pot_most = rate_limit * (operators * income_limit) / 1000000

abbrev pub limit_most : ℕ
limit_most = rate_limit * income_limit / 1000000

-- the measures of operators are at most their limits
pub record Within (b : Book) : Type 0 where
  -- the settings of each operator are at most their limits
  pub settings_within : (operator which : ℕ) → operator < operators → which < setting_count → setting_of b operator which ≤ setting_limit which
  -- "Figures per operator and year, each 0 to 10^11"
  pub figures_within : (operator year figure : ℕ) → operator < operators → year < years → figure < figure_count → figure_of b operator year figure ≤ figure_limit
  -- "indices in hundredths, 1 to 100,000", the upper end
  pub indices_within : (number : ℕ) → number < index_count → index_of b number ≤ index_most
