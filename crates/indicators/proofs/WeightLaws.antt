-- The weights of an indicator: above 0 for whoever takes part, and small enough to add up in 64 bits.
-- Assumes nothing.
use Prim.Native.Nat.{ℕ, ◌-◌, ◌*◌, ◌≤◌, ◌<◌, zero-le}
use mathlib.Core.Path.{◌≡◌, refl, ◌∙◌}
use mathlib.Core.Bool.{Bool, true, false, cond}
use mathlib.Core.List.{List}
use native.Mathlib.Nat.{div-le_of_le-mul, mul-le-mul_left, mul-le-mul, mul-pos, mul_comm}
use native.Mathlib.Omega.{arith}
use lib.ListN.{length, get_or}
use lib.Dec.{eqb}
use borrow.Author.Tests.{eqb-false, ne_eqb}
use Rattle.apportion.specs.Sum.{sum}
use Rattle.calls.specs.Limits.{operators}
use Rattle.exponent.specs.Weight.{first_weight}
use Rattle.exponent.proofs.Laws.{weight-positive, weight_most}
use Rattle.calls.specs.Masks.{has}
use Rattle.calls.proofs.Flags.{and_left}
use Rattle.values.specs.Operators.{each, count}
use Rattle.exact.specs.Division.{over}
use Rattle.calls.specs.Indicators.{Measure}
use Rattle.indicators.specs.Points.{largest, normalised, exponent_weight, is_better, levelled, is_levelled, weight_of_one, weights}
use Rattle.values.proofs.Tables.{length-each, each_at, each-le-sum, sum-each-le}
use Rattle.values.proofs.CountLaws.{cond-le, count-le, count-positive}
use Rattle.indicators.proofs.Largest.{largest-ge}

-- all weights of the table together, the most that levelling makes of one
abbrev pub levelled_most : ℕ
levelled_most = operators * first_weight

-- D: "the weight is 1,000,000 - 6 × e"
abbrev pub linear_weight : List ℕ → ℕ → ℕ
linear_weight scores operator = 1000000 - 6 * normalised 100000 scores operator

-- a quotient, or 0, is at most a number that many times the divisor reaches
pub over-most : (dividend divisor most : ℕ) → dividend ≤ divisor * most → over dividend divisor ≤ most
unfolding over
over-most dividend divisor most le = cond-le (eqb divisor 0) (omega arith) (div-le_of_le-mul divisor le)

module _ (list : List ℕ) (operator : ℕ) where
  pub normalised-most : (parts : ℕ) → normalised parts list operator ≤ parts
  unfolding normalised
  normalised-most parts =
      over-most (parts * get_or list operator 0) (largest list) parts
      (rw (mul_comm (largest list) parts) (mul-le-mul_left parts (largest-ge list operator)))

  pub exponent-positive : 0 < exponent_weight list operator
  unfolding exponent_weight
  exponent-positive = weight-positive _ (normalised-most 1000)

  pub exponent-most : exponent_weight list operator ≤ first_weight
  unfolding exponent_weight
  exponent-most = weight_most _

  pub linear-least : 400000 ≤ linear_weight list operator
  linear-least = omega (arith, normalised-most 100000)

  pub linear-most : linear_weight list operator ≤ 1000000
  linear-most = omega arith

-- the weights of the better in one
abbrev pub together : (ℕ → Bool) → (ℕ → ℕ) → ℕ
together better own = sum (each (λ (other : ℕ). cond (better other) (own other) 0))

-- levelling keeps weights above 0 and makes the better alike
module _ (better : ℕ → Bool) (own : ℕ → ℕ) (operator : ℕ) (lt : operator < 16) where
  reached : better operator ≡ true → own operator ≤ together better own
  reached passed = rw passed at (each-le-sum (λ (other : ℕ). cond (better other) (own other) 0) operator lt)

  levelled-positive : 0 < own operator → 0 < levelled better own operator
  unfolding levelled
  levelled-positive pos = go (eqb (count 16 better) 0) refl (better operator) refl
    where
      go : (t : Bool) → eqb (count 16 better) 0 ≡ t → (s : Bool) → better operator ≡ s
          → 0 < cond t (own operator) (cond s (together better own) (count 16 better * own operator))
      go true e s a = pos
      go false e true a = omega (arith, reached a)
      go false e false a = mul-pos (omega (arith, eqb-false (count 16 better) 0 e)) pos

  levelled-better : better operator ≡ true → levelled better own operator ≡ together better own
  unfolding levelled
  levelled-better passed =
      let some : 0 < count 16 better = count-positive 16 better operator lt passed in
      rw (passed, ne_eqb (count 16 better) 0 (λ e. omega (arith, e, some))) refl

-- and at most sixteen times the most
levelled-most : (better : ℕ → Bool) (own : ℕ → ℕ) (most : ℕ) → ((k : ℕ) → own k ≤ most) → (operator : ℕ) → levelled better own operator ≤ 16 * most
unfolding levelled
levelled-most better own most small operator =
    cond-le (eqb (count 16 better) 0) (omega (arith, small operator))
    (cond-le (better operator) (sum-each-le _ most (λ k lt. cond-le (better k) (small k) zero-le)) (mul-le-mul (count-le 16 better) (small operator)))

-- who is better takes part
pub better-reliable : (mask : ℕ) (scores : List ℕ) (operator : ℕ) → is_better mask scores operator ≡ true → has mask operator ≡ true
unfolding is_better
better-reliable mask scores operator better = and_left _ _ better

module _ (measure : Measure) (mask : ℕ) (scores : List ℕ) where
  one-positive : (operator : ℕ) → operator < 16 → 0 < weight_of_one measure mask scores operator
  unfolding weight_of_one
  one-positive operator lt = go (is_levelled measure)
    where
      go : (t : Bool) → 0 < cond t (levelled (is_better mask scores) (exponent_weight scores) operator) (linear_weight scores operator)
      go true = levelled-positive _ _ operator lt (exponent-positive scores operator)
      go false = omega (arith, linear-least scores operator)

  -- the better all weigh the same
  pub one-better : is_levelled measure ≡ true → (operator : ℕ) → operator < 16 → is_better mask scores operator ≡ true
      → weight_of_one measure mask scores operator ≡ together (is_better mask scores) (exponent_weight scores)
  unfolding weight_of_one
  one-better levels operator lt better = rw levels (levelled-better _ _ operator lt better)

  one-most : (operator : ℕ) → weight_of_one measure mask scores operator ≤ levelled_most
  unfolding weight_of_one
  one-most operator =
      cond-le (is_levelled measure) (levelled-most _ _ first_weight (exponent-most scores) operator) (omega (arith, linear-most scores operator))

  -- the list of weights
  pub weights-length : length (weights measure mask scores) ≡ 16
  unfolding weights
  weights-length = length-each _

  weight-at : (operator : ℕ) → operator < 16
      → get_or (weights measure mask scores) operator 0 ≡ cond (has mask operator) (weight_of_one measure mask scores operator) 0
  unfolding weights
  weight-at operator lt = each_at _ operator lt

  pub weight-reliable : (operator : ℕ) → operator < 16 → has mask operator ≡ true
      → get_or (weights measure mask scores) operator 0 ≡ weight_of_one measure mask scores operator
  weight-reliable operator lt reliable = weight-at operator lt ∙ rw reliable refl

  pub weight-none : (operator : ℕ) → operator < 16 → has mask operator ≡ false → get_or (weights measure mask scores) operator 0 ≡ 0
  weight-none operator lt marked = weight-at operator lt ∙ rw marked refl

  -- whoever takes part has a weight above 0
  pub weight-better : (operator : ℕ) → operator < 16 → has mask operator ≡ true → 0 < get_or (weights measure mask scores) operator 0
  weight-better operator lt reliable = rw (weight-reliable operator lt reliable) (one-positive operator lt)

  pub weights-sum-most : sum (weights measure mask scores) ≤ operators * levelled_most
  unfolding weights
  weights-sum-most = sum-each-le _ levelled_most (λ k lt. cond-le (has mask k) (one-most k) zero-le)
