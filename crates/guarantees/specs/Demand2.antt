-- Demand 2: the settlement's numbers are those that 01 defines, its points are made up as 01 says, and a written filing read into a fresh
-- book gives the book back. Its value is `demand-2` of proofs/Demand2Holds.antt.
-- Assumes nothing.
use Rattle.std.specs.Prelude.{ℕ, ◌≤◌, ◌<◌, ◌≡◌, true, List, length, get_or}
use Rattle.calls.specs.Limits.{indicator_count}
use Rattle.calls.specs.Indicators.{Indicator, electricity, gas, takes_mark}
use Rattle.calls.specs.Answers.{accepted, yes_said}
use Rattle.book.specs.declared.Book.{Book}
use Rattle.book.specs.Book.{fresh_book, within_limits, in_range}
use Rattle.values.specs.Indicator.{numbered_in, pool}
use Rattle.indicators.specs.Points.{points, pools_of_all, points_of_all}
use Rattle.indicators.specs.Laws.{PointsMadeUp}
use Rattle.money.specs.Money.{pot, contributions, returns, limits, adjustments}
use Rattle.settlement.specs.declared.Settlement.{Settlement}
use Rattle.settlement.specs.Settlement.{settled_by}
use Rattle.settlement.specs.Laws.{Settles, points_at}
use Rattle.filing.specs.Reader.{reading, read_as}
use Rattle.writing.specs.Written.{written_calls, written_as, written, written_gas}
use Rattle.writing.specs.Laws.{written_most_as, written_most, written_most_gas, Fullest, fullest, fullest_gas}

-- a settlement of a book over a list of indicators has the numbers that 01 defines
pub record Defined (b : Book) (indicators : List Indicator) (s : Settlement) : Type 0 where
  -- each indicator's pool, and its points by operator, at the indicator's number; 0 at the others
  pub pools_are : s.pools ≡ pools_of_all b indicators
  pub points_are : s.points ≡ points_of_all b indicators
  pub pot_is : s.pot ≡ pot b
  pub contributions_are : s.contributions ≡ contributions b
  pub returns_are : s.returns ≡ returns b indicators
  pub limits_are : s.limits ≡ limits b
  pub adjustments_are : s.adjustments ≡ adjustments b indicators
  -- of the list's indicator of a number: n and m are counts, the joined operators without a mark take part, the points add up to the pool,
  -- "Marked operators get 0", "Within the group points differ by at most a hundredth"
  pub made_up : (number : ℕ) → number < indicator_count → takes_mark indicators number ≡ true
      → PointsMadeUp b (numbered_in indicators number) (get_or s.pools number 0) (points_at s number)

-- on books of a kind, which is a list of indicators
pub record Demand2Of (kind : List Indicator) : Type 0 where
  -- the settlement that a book gets that settles
  pub defined : (b : Book) → Settles b kind → Defined b kind (settled_by b kind).settlement
  -- a written filing, read into a fresh book gives the book back: all its fields applied, the offset at its end
  pub read_back : (b : Book) → in_range kind b ≡ true
      → read_as kind fresh_book (written_as kind b) ≡ reading b (length (written_calls kind b)) (length (written_as kind b)) (accepted yes_said)
  pub most : (b : Book) → in_range kind b ≡ true → length (written_as kind b) ≤ written_most_as kind

pub record Demand2 : Type 0 where
  -- of the two kinds,
  pub of_electricity : Demand2Of electricity
  pub of_gas : Demand2Of gas
  -- and over any list of indicators
  pub by_list : (kind : List Indicator) → Demand2Of kind
  -- the same of an indicator of any book within its limits
  pub points_made_up : (b : Book) (indicator : Indicator) → within_limits b ≡ true → PointsMadeUp b indicator (pool b indicator) (points b indicator)
  -- "The most a writer needs grows to 11,083 bytes" (02, point 3), of gas to 3,595; each is needed by one book
  pub most_electricity : (b : Book) → in_range electricity b ≡ true → length (written b) ≤ written_most
  pub most_gas : (b : Book) → in_range gas b ≡ true → length (written_gas b) ≤ written_most_gas
  pub fullest_electricity : Fullest electricity fullest written_most
  pub fullest_of_gas : Fullest gas fullest_gas written_most_gas
