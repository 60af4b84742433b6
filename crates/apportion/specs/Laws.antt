-- What holds of every sharing, over lists of any length and whatever the sizes. The proof is `shared` of proofs/Shared.antt.
-- Assumes nothing.
use Rattle.std.specs.Prelude.{ℕ, ◌+◌, ◌≤◌, ◌<◌, ◌≡◌, ◌⊎◌, true, List, length, get_or}
use Rattle.apportion.specs.Sum.{sum}
use Rattle.apportion.specs.Share.{floors, remainders, precedes, share}

pub record Shared (T : ℕ) (weights sizes : List ℕ) : Type 0 where
  -- as many shares as weights
  pub long : length (share T weights sizes) ≡ length weights
  -- the shares add up to T unless all weights are 0
  pub whole : 0 < sum weights → sum (share T weights sizes) ≡ T
  -- each share is the floor or one more
  pub floor_or_next : (i : ℕ) → i < length weights
      → (get_or (share T weights sizes) i 0 ≡ get_or (floors T weights) i 0) ⊎ (get_or (share T weights sizes) i 0 ≡ get_or (floors T weights) i 0 + 1)
  -- whoever got a spare unit is served before everyone who did not: by remainder, size and number
  pub order : (i j : ℕ) → i < length weights → j < length weights
      → get_or (share T weights sizes) i 0 ≡ get_or (floors T weights) i 0 + 1 → get_or (share T weights sizes) j 0 ≡ get_or (floors T weights) j 0
      → precedes (get_or (remainders T weights) i 0) (get_or sizes i 0) i (get_or (remainders T weights) j 0) (get_or sizes j 0) j ≡ true
  -- a place of weight 0 gets 0
  pub none : (i : ℕ) → i < length weights → get_or weights i 0 ≡ 0 → get_or (share T weights sizes) i 0 ≡ 0
  -- if T is at most the sum of weights, no share passes its weight
  pub within : T ≤ sum weights → (i : ℕ) → i < length weights → get_or (share T weights sizes) i 0 ≤ get_or weights i 0
  -- equal weights get shares that differ by at most one
  pub alike : (i j : ℕ) → i < length weights → j < length weights → get_or weights i 0 ≡ get_or weights j 0 → get_or (share T weights sizes) i 0 ≤ get_or (share T weights sizes) j 0 + 1
