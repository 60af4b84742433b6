-- Which indicators are levelled and which linear, and the weights of either kind.
-- Assumes nothing.
use mathlib.Core.Path.{◌≡◌, refl, sym, ap, ◌∙◌}
use mathlib.Core.Bool.{Bool, true, false, cond}
use mathlib.Core.List.{List, [], ◌∷◌}
use Prim.Native.Nat.{ℕ, ◌*◌, ◌<◌}
use lib.Dec.{eqb, ltb}
use lib.ListN.{length, get_or}
use Rattle.std.specs.List.{count_by}
use Rattle.std.proofs.lemmas.List.Sums.{sum_by-cons}
use Rattle.calls.specs.Limits.{operators, indicator_count}
use Rattle.calls.specs.Masks.{has}
use Rattle.apportion.specs.Sum.{sum}
use Rattle.values.specs.Operators.{table, each, count}
use Rattle.calls.specs.Indicators.{Measure, electricity}
use Rattle.values.specs.Indicator.{numbered}
use Rattle.indicators.specs.Points.{exponent_weight, is_better, levelled, is_levelled, weight_of_one, weights}
use Rattle.values.proofs.Tables.{table_at, each_at, each_same}
use Rattle.values.proofs.CountLaws.{count-first, count_same}
use Rattle.indicators.specs.Sequence.{levelled_weights}
use Rattle.values.proofs.Numbered.{of-numbered}
use Rattle.indicators.proofs.WeightLaws.{linear_weight, together}

-- the first four indicators are levelled, the others linear
pub level-of : (number : ℕ) → number < indicator_count → is_levelled (numbered number).measure ≡ ltb number 4
unfolding electricity is_levelled
level-of = of-numbered (λ number indicator. is_levelled indicator.measure ≡ ltb number 4) (refl, (refl, (refl, (refl, (refl, (refl, tt))))))

module _ (mask : ℕ) (scores : List ℕ) where
  -- the better operators' weights taken from a list
  pub together-same : sum (each (λ (operator : ℕ). cond (is_better mask scores operator) (get_or (each (exponent_weight scores)) operator 0) 0))
      ≡ together (is_better mask scores) (exponent_weight scores)
  together-same = ap sum (each_same _ _ (λ k lt. rw (each_at (exponent_weight scores) k lt) refl))

  -- the weights of either kind of measure
  module _ (measure : Measure) where
    pub levelled-same : is_levelled measure ≡ true
        → weights measure mask scores ≡ each (λ (operator : ℕ). cond (has mask operator) (levelled (is_better mask scores) (exponent_weight scores) operator) 0)
    unfolding weights weight_of_one
    levelled-same e = rw e refl

    pub linear-same : is_levelled measure ≡ false → weights measure mask scores ≡ each (λ (operator : ℕ). cond (has mask operator) (linear_weight scores operator) 0)
    unfolding weights weight_of_one
    linear-same e = rw e refl

-- an operator's weight, by who is better, how many are and what their weights come to; and 0 for one that takes no part
abbrev pub weighed : ℕ → List ℕ → List Bool → ℕ → ℕ → ℕ → ℕ
weighed mask own better g together operator =
    cond (has mask operator) (cond (eqb g 0) (get_or own operator 0) (cond (get_or better operator false) together (g * get_or own operator 0))) 0

-- a table of who is better tells it of each
pub told-better : (mask : ℕ) (sums : List ℕ) (better : List Bool) → better ≡ table operators (is_better mask sums) → (k : ℕ) → k < 16
    → get_or better k false ≡ is_better mask sums k
told-better mask sums better is k lt = rw is (table_at (is_better mask sums) 16 k false lt)

-- it is the levelled one
pub levelled-by : (mask : ℕ) (sums own : List ℕ) (better : List Bool) (g together : ℕ) → better ≡ table operators (is_better mask sums)
    → g ≡ count operators (λ (k : ℕ). get_or better k false) → together ≡ sum (each (λ (k : ℕ). cond (get_or better k false) (get_or own k 0) 0))
    → each (weighed mask own better g together) ≡ levelled_weights mask sums own
unfolding levelled_weights levelled
levelled-by mask sums own better g together is few all =
    let here : (k : ℕ) → k < 16 → get_or better k false ≡ is_better mask sums k = told-better mask sums better is in
    let counted : g ≡ count operators (is_better mask sums) = few ∙ count_same 16 _ _ here in
    let added : together ≡ sum (each (λ (k : ℕ). cond (is_better mask sums k) (get_or own k 0) 0)) = all ∙ ap sum (each_same _ _ (λ k lt. rw (here k lt) refl)) in
    each_same _ _ (λ k lt. rw (here k lt, counted, added) refl)

-- how many of a list of Bools are true, by the library and by places
pub true-counted : (list : List Bool) → count_by (λ (b : Bool). b) list ≡ count (length list) (λ (k : ℕ). get_or list k false)
unfolding count
true-counted [] = refl
true-counted (b ∷ list) =
    sum_by-cons (λ (c : Bool). cond c 1 0) b list ∙ (rw (true-counted list) (sym (count-first (length list) (λ (k : ℕ). get_or (b ∷ list) k false))))
