-- The five steps of an A indicator in turn are its weights (specs/Laws.antt, `InSequence`), and the bounds of what each gives.
-- Assumes nothing.
use Prim.Native.Nat.{ℕ, ◌*◌, ◌≤◌, ◌<◌}
use mathlib.Core.Path.{◌≡◌, refl, sym, ap, ◌∙◌}
use mathlib.Core.Bool.{true, false}
use mathlib.Core.List.{List}
use native.Mathlib.Omega.{arith}
use lib.ListN.{get_or}
use Rattle.calls.specs.Indicators.{Indicator}
use Rattle.calls.specs.Masks.{has}
use Rattle.book.specs.declared.Book.{Book}
use Rattle.exact.specs.Division.{over}
use Rattle.exponent.specs.Weight.{first_weight, weight_of}
use Rattle.exponent.proofs.Laws.{weight_most}
use Rattle.values.specs.Operators.{each}
use Rattle.values.specs.Indicator.{reliable_mask, scores}
use Rattle.values.specs.Sequence.{sums_of_years}
use Rattle.values.proofs.Tables.{each_at, each_same, each-le}
use Rattle.values.proofs.Scores.{scores-in-turn}
use Rattle.indicators.specs.Points.{largest, normalised, exponent_weight, levelled, is_levelled, weights, points}
use Rattle.indicators.specs.Sequence.{thousandths, exponent_weights, levelled_weights, in_sequence}
use Rattle.indicators.specs.Laws.{sums_in, InSequence}
use Rattle.indicators.proofs.WeightLaws.{over-most, normalised-most}
use Rattle.indicators.proofs.Weighting.{together-same, levelled-same}

-- step 3 by operator
thousandths-same : (sums : List ℕ) → thousandths sums ≡ each (normalised 1000 sums)
unfolding thousandths normalised
thousandths-same sums = refl

-- steps 3 and 4
own_same : (sums : List ℕ) → exponent_weights (thousandths sums) ≡ each (exponent_weight sums)
unfolding exponent_weights exponent_weight
own_same sums = rw (thousandths-same sums) (each_same _ _ (λ k lt. ap weight_of (each_at (normalised 1000 sums) k lt)))

pub thousandths-most : (sums : List ℕ) (place : ℕ) → get_or (thousandths sums) place 0 ≤ 1000
thousandths-most sums = rw (thousandths-same sums) (each-le (normalised 1000 sums) 1000 (λ k lt. normalised-most sums k 1000))

-- no weight of the table passes its first
pub own_most : (ks : List ℕ) (place : ℕ) → get_or (exponent_weights ks) place 0 ≤ first_weight
unfolding exponent_weights
own_most ks = each-le _ first_weight (λ k lt. weight_most _)

module _ (b : Book) (indicator : Indicator) where
  pub sequence-weights : is_levelled indicator.measure ≡ true
      → in_sequence b indicator ≡ weights indicator.measure (reliable_mask b indicator) (scores b indicator)
  unfolding in_sequence levelled_weights levelled
  sequence-weights levels =
      let mask = reliable_mask b indicator in
      let sums = scores b indicator in
      rw (scores-in-turn b indicator, own_same sums)
      (each_same _ _ (λ k lt. rw (together-same mask sums, each_at (exponent_weight sums) k lt) refl))
      ∙ sym (levelled-same mask sums indicator.measure levels)

  -- somebody who takes no part
  module _ (operator : ℕ) (lt : operator < 16) (outside : has (reliable_mask b indicator) operator ≡ false) where
    no_sum : get_or (sums_in b indicator) operator 0 ≡ 0
    unfolding sums_of_years
    no_sum = each_at _ operator lt ∙ rw outside refl

    weight_of_first : get_or (exponent_weights (thousandths (sums_in b indicator))) operator 0 ≡ first_weight
    unfolding exponent_weights thousandths weight_of
    weight_of_first =
        let sums = sums_in b indicator in
        let none : over (1000 * get_or sums operator 0) (largest sums) ≡ 0 = omega (arith, over-most (1000 * get_or sums operator 0) (largest sums) 0 (omega (arith, no_sum))) in
        each_at _ operator lt ∙ ap weight_of (each_at _ operator lt ∙ none)

    no_weight : get_or (in_sequence b indicator) operator 0 ≡ 0
    unfolding in_sequence levelled_weights
    no_weight = each_at _ operator lt ∙ rw outside refl

  pub in-sequence : InSequence b indicator
  unfolding points
  in-sequence =
      record {
        weights_are = sequence-weights;
        points_are = λ levels. rw (sequence-weights levels) refl;
        no_sum = no_sum;
        weight_of_first = weight_of_first;
        no_weight = no_weight;
      }
