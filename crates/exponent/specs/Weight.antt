-- The exponent weight of k: document 01's "table of 1001 numbers: the first is 1,000,000,000, each next is 999/1000 of the one before, rounded down".
-- Assumes nothing.
use Rattle.std.specs.Prelude.{ℕ, zero, suc, ◌*◌, ◌/◌, ◌≤◌, ◌<◌}

-- no weight passes it
abbrev pub first_weight : ℕ
first_weight = 1000000000

unfoldable pub weight_of : ℕ → ℕ
weight_of zero = first_weight
weight_of (suc k) = weight_of k * 999 / 1000

-- the weights fall strictly, and lie between their ends; the proof is `weights-fall` of proofs/Laws.antt
pub record WeightsFall : Type 0 where
  pub falls : (j k : ℕ) → j < k → k ≤ 1000 → weight_of k < weight_of j
  pub most : (k : ℕ) → weight_of k ≤ first_weight
  pub least : (k : ℕ) → k ≤ 1000 → weight_of 1000 ≤ weight_of k
  pub positive : (k : ℕ) → k ≤ 1000 → 0 < weight_of k
