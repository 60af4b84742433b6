-- What inner functions of weights ask for.
-- Assumes nothing.
use Rattle.std.specs.Prelude.{ℕ, ◌≤◌, List, get_or}
use Rattle.exponent.specs.Weight.{first_weight}
use Rattle.values.specs.Bounds.{score_most}

-- no score passes three years of the largest yearly value
abbrev pub ScoresWithin : List ℕ → Type 0
ScoresWithin scores = (place : ℕ) → get_or scores place 0 ≤ score_most

-- no k passes the table's last
abbrev pub Thousandths : List ℕ → Type 0
Thousandths ks = (place : ℕ) → get_or ks place 0 ≤ 1000

pub record LevelAsked (sums own : List ℕ) : Type 0 where
  pub sums_within : ScoresWithin sums
  pub own_most : (place : ℕ) → get_or own place 0 ≤ first_weight
