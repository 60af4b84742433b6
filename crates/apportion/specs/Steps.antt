-- What the inner functions of sharing ask for, and how they speak of an array of divisions.
-- Assumes nothing.
use Rattle.std.specs.Prelude.{ℕ, ◌<◌, ◌≡◌, List, map, get_or}
use Rattle.exact.specs.Division.{Dividing}
use Rattle.exact.specs.declared.Division.{Division}
use Rattle.apportion.specs.declared.Claim.{Claim}
use Rattle.apportion.specs.Sum.{sum}

-- t times each weight, to be divided by the sum of the weights
pub record DividingEach (t : ℕ) (weights : List ℕ) (s : ℕ) : Type 0 where
  pub divisor_is : s ≡ sum weights
  pub each : (i : ℕ) → i < 16 → Dividing t (get_or weights i 0) s

-- the quotients of the divisions at all places
abbrev pub quotients : List Division → List ℕ
quotients divisions = map (λ (d : Division). d.quotient) divisions

-- and their remainders
abbrev pub spare : List Division → List ℕ
spare divisions = map (λ (d : Division). d.remainder) divisions

-- what a place claims a unit by
abbrev pub claim_at : List Division → List ℕ → ℕ → Claim
claim_at divisions sizes place = record { remainder = get_or (spare divisions) place 0; size = get_or sizes place 0; place = place }
