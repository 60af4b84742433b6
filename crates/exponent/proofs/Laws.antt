-- Laws of the exponent weights, from their recurrence (specs/Weight.antt).
-- Assumes nothing.
use Prim.Native.Nat.{ℕ, zero, suc, ◌≤◌, ◌<◌}
use mathlib.Core.Logic.{⊎_elim}
use native.Mathlib.Nat.{eq-or-lt_of_le, lt_of_lt_of_le}
use lib.Dec.{lit<}
use native.Mathlib.Omega.{arith}
use Rattle.exponent.specs.Weight.{first_weight, weight_of, WeightsFall}
use Rattle.exponent.proofs.Entries.{next}

next_le : (weight : ℕ) → next weight ≤ weight
next_le weight = omega arith

-- a weight above 0 falls
next-lt : (weight : ℕ) → 0 < weight → next weight < weight
next-lt weight pos = omega arith

-- a later weight is no larger
pub weight-mono : (j k : ℕ) → j ≤ k → weight_of k ≤ weight_of j
unfolding weight_of
weight-mono j zero le = go j le
  where
    go : (j : ℕ) → j ≤ 0 → weight_of 0 ≤ weight_of j
    go zero le = omega arith
    go (suc j) le = absurd (omega arith)
weight-mono j (suc k) le = ⊎_elim (λ e. rw e (omega arith)) (λ lt. omega (arith, next_le (weight_of k), weight-mono j k (omega arith))) (eq-or-lt_of_le le)

pub weight_most : (k : ℕ) → weight_of k ≤ first_weight
unfolding weight_of
weight_most k = weight-mono 0 k (omega arith)

pub weight-least : (k : ℕ) → k ≤ 1000 → weight_of 1000 ≤ weight_of k
weight-least k le = weight-mono k 1000 le

pub weight-positive : (k : ℕ) → k ≤ 1000 → 0 < weight_of k
unfolding weight_of
weight-positive k le = lt_of_lt_of_le (lit< tt) (weight-least k le)

-- strict fall
pub weight-falls : (j k : ℕ) → j < k → k ≤ 1000 → weight_of k < weight_of j
unfolding weight_of
weight-falls j zero lt le = absurd (omega arith)
weight-falls j (suc k) lt le = omega (arith, next-lt (weight_of k) (weight-positive k (omega arith)), weight-mono j k (omega arith))

pub weights-fall : WeightsFall
weights-fall = record { falls = weight-falls; most = weight_most; least = weight-least; positive = weight-positive }
