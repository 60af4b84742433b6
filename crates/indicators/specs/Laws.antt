-- What holds of an indicator of every book in range, and of the steps of an A indicator. The proofs are `points_made_up` of
-- proofs/PointLaws.antt and `in-sequence` of proofs/SequenceLaws.antt.
-- Assumes nothing.
use Rattle.std.specs.Prelude.{ℕ, ◌+◌, ◌*◌, ◌≤◌, ◌<◌, ◌≡◌, true, false, not, ◌&&◌, List, get_or}
use Rattle.std.specs.Int.Count.{ones}
use Rattle.calls.specs.Limits.{operators}
use Rattle.calls.specs.Masks.{has}
use Rattle.book.specs.declared.Book.{Book}
use Rattle.book.specs.Book.{is_joined, is_marked}
use Rattle.apportion.specs.Sum.{sum}
use Rattle.apportion.specs.Share.{share}
use Rattle.exact.specs.Division.{over}
use Rattle.exponent.specs.Weight.{first_weight}
use Rattle.values.specs.Operators.{count, sizes_of}
use Rattle.calls.specs.Indicators.{Indicator}
use Rattle.values.specs.Indicator.{reliable_mask, pool, scores}
use Rattle.values.specs.Sequence.{values_by_year, sums_of_years}
use Rattle.indicators.specs.Points.{is_better, is_levelled, weights, points}
use Rattle.indicators.specs.Sequence.{thousandths, exponent_weights, in_sequence}

-- an indicator's pool, and the points given by operator
pub record PointsMadeUp (b : Book) (indicator : Indicator) (pooled : ℕ) (given : List ℕ) : Type 0 where
  -- n and m, ones of masks, are the counts over the operators
  pub joined_counted : ones b.joined ≡ count operators (is_joined b)
  pub reliable_counted : ones (reliable_mask b indicator) ≡ count operators (has (reliable_mask b indicator))
  -- who takes part: the joined operators "without a mark at this indicator"
  pub reliable_exactly : (operator : ℕ) → operator < operators
      → has (reliable_mask b indicator) operator ≡ is_joined b operator && not (is_marked b operator indicator.number)
  -- "Pool, in hundredths: 300 × points × m / n"
  pub pool_counted : pooled ≡ over (300 * indicator.points * count operators (has (reliable_mask b indicator))) (count operators (is_joined b))
  -- points add up to the pool
  pub whole : sum given ≡ pooled
  -- who does not take part gets 0
  pub others_none : (operator : ℕ) → operator < operators → has (reliable_mask b indicator) operator ≡ false → get_or given operator 0 ≡ 0
  -- "Within the group points differ by at most a hundredth"
  pub better_alike : is_levelled indicator.measure ≡ true → (operator other : ℕ) → operator < operators → other < operators
      → is_better (reliable_mask b indicator) (scores b indicator) operator ≡ true → is_better (reliable_mask b indicator) (scores b indicator) other ≡ true
      → get_or given operator 0 ≤ get_or given other 0 + 1

-- steps 1 and 2 in turn
abbrev pub sums_in : Book → Indicator → List ℕ
sums_in b indicator = sums_of_years (reliable_mask b indicator) (values_by_year b indicator.measure)

-- the steps of annex 9, 4.2.1, of any book
pub record InSequence (b : Book) (indicator : Indicator) : Type 0 where
  -- the five in turn are the weights of an A indicator, by which its pool is shared
  pub weights_are : is_levelled indicator.measure ≡ true
      → in_sequence b indicator ≡ weights indicator.measure (reliable_mask b indicator) (scores b indicator)
  pub points_are : is_levelled indicator.measure ≡ true → points b indicator ≡ share (pool b indicator) (in_sequence b indicator) (sizes_of b)
  -- somebody who takes no part: step 2 gives the sum 0, step 4 so the first weight, and step 5 the weight 0
  pub no_sum : (operator : ℕ) → operator < operators → has (reliable_mask b indicator) operator ≡ false
      → get_or (sums_in b indicator) operator 0 ≡ 0
  pub weight_of_first : (operator : ℕ) → operator < operators → has (reliable_mask b indicator) operator ≡ false
      → get_or (exponent_weights (thousandths (sums_in b indicator))) operator 0 ≡ first_weight
  pub no_weight : (operator : ℕ) → operator < operators → has (reliable_mask b indicator) operator ≡ false → get_or (in_sequence b indicator) operator 0 ≡ 0
