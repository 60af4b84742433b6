-- What functions of one weight ask for.
-- Assumes nothing.
use Rattle.std.specs.Prelude.{ℕ, ◌^◌, ◌≤◌, ◌<◌}
use Rattle.values.specs.Bounds.{score_most}

pub record NormalisingAsked (parts score top : ℕ) : Type 0 where
  pub parts_small : parts < 2 ^ 62
  pub score_within : score ≤ top
  pub top_most : top ≤ score_most
