-- Points of an indicator: from the sums of three years to weights, and the pool shared by them (01, "Indicators"; annex 9, 4.2).
-- Assumes nothing.
use Rattle.std.specs.Prelude.{ℕ, zero, suc, ◌+◌, ◌*◌, ◌-◌, max, Bool, true, false, cond, ◌&&◌, List, [], ◌∷◌, ◌++◌, ltb, eqb, get_or, replicate}
use Rattle.std.specs.Int.Count.{ones}
use Rattle.calls.specs.Limits.{operators, indicator_count}
use Rattle.calls.specs.Masks.{has}
use Rattle.book.specs.declared.Book.{Book}
use Rattle.apportion.specs.Sum.{sum}
use Rattle.apportion.specs.Share.{share}
use Rattle.exact.specs.Division.{over}
use Rattle.exponent.specs.Weight.{weight_of}
use Rattle.values.specs.Operators.{table, each, count, sizes_of}
use Rattle.calls.specs.Indicators.{Measure, frequency, duration, fee, Indicator, takes_mark}
use Rattle.values.specs.Indicator.{numbered_in, reliable_mask, pool, scores}

-- the largest of a list
unfoldable pub largest : List ℕ → ℕ
largest [] = 0
largest (x ∷ xs) = max x (largest xs)

-- a score as so many parts of the largest: 01's k (1000 parts) and e (100,000 parts)
unfoldable pub normalised : ℕ → List ℕ → ℕ → ℕ
normalised parts scores operator = over (parts * get_or scores operator 0) (largest scores)

-- A: the table's weight of k
unfoldable pub exponent_weight : List ℕ → ℕ → ℕ
exponent_weight scores operator = weight_of (normalised 1000 scores operator)

-- among those of a mask: "Better operators have m × s below the sum of all s"
unfoldable pub is_better : ℕ → List ℕ → ℕ → Bool
is_better mask scores operator = has mask operator && ltb (ones mask * get_or scores operator 0) (sum scores)

-- "With g better operators, g above 0, each of them takes the sum of their weights and each other takes g times its own"; with none each
-- keeps its own
unfoldable pub levelled : (ℕ → Bool) → (ℕ → ℕ) → ℕ → ℕ
levelled better own operator =
    let g : ℕ = count operators better in
    let together : ℕ = sum (each (λ (other : ℕ). cond (better other) (own other) 0)) in
    cond (eqb g 0) (own operator) (cond (better operator) together (g * own operator))

-- A indicators are levelled, D indicators are linear
unfoldable pub is_levelled : Measure → Bool
is_levelled (frequency figure which) = true
is_levelled (duration seconds weight) = true
is_levelled (fee fees connections) = false

-- the weight of one that takes part; D: "the weight is 1,000,000 - 6 × e"
unfoldable pub weight_of_one : Measure → ℕ → List ℕ → ℕ → ℕ
weight_of_one measure mask scores operator =
    cond (is_levelled measure) (levelled (is_better mask scores) (exponent_weight scores) operator) (1000000 - 6 * normalised 100000 scores operator)

unfoldable pub weights : Measure → ℕ → List ℕ → List ℕ
weights measure mask scores = each (λ (operator : ℕ). cond (has mask operator) (weight_of_one measure mask scores operator) 0)

-- the pool shared by the weights
unfoldable pub points : Book → Indicator → List ℕ
points b indicator = share (pool b indicator) (weights indicator.measure (reliable_mask b indicator) (scores b indicator)) (sizes_of b)

-- an operator's points over a list of indicators
unfoldable pub all_points : Book → List Indicator → ℕ → ℕ
all_points b [] operator = 0
all_points b (indicator ∷ rest) operator = get_or (points b indicator) operator 0 + all_points b rest operator

-- pools and points stand at their indicator's number; 0 at a number that no indicator of a list has
unfoldable pub pool_numbered : Book → List Indicator → ℕ → ℕ
pool_numbered b indicators number = cond (takes_mark indicators number) (pool b (numbered_in indicators number)) 0

unfoldable pub points_numbered : Book → List Indicator → ℕ → List ℕ
points_numbered b indicators number = cond (takes_mark indicators number) (points b (numbered_in indicators number)) (replicate operators 0)

unfoldable pub pools_of_all : Book → List Indicator → List ℕ
pools_of_all b indicators = table indicator_count (pool_numbered b indicators)

-- f 0 to f (n - 1), one list after the other
unfoldable pub rows : ℕ → (ℕ → List ℕ) → List ℕ
rows zero f = []
rows (suc n) f = rows n f ++ f n

unfoldable pub points_of_all : Book → List Indicator → List ℕ
points_of_all b indicators = rows indicator_count (points_numbered b indicators)

-- a number for each indicator and operator
abbrev pub point_places : ℕ
point_places = operators * indicator_count
