-- Division rounded down, and what the division of a product asks for: numbers that leave room in 64 bits.
-- Assumes nothing.
use Rattle.std.specs.Prelude.{ℕ, ◌*◌, ◌/◌, ◌^◌, ◌<◌, ◌≤◌, cond, eqb}

-- "rounded down; a zero divisor gives 0"
unfoldable pub over : ℕ → ℕ → ℕ
over dividend divisor = cond (eqb divisor 0) 0 (dividend / divisor)

-- t * w by s, of which w is a part, or which is the largest of some w
pub record Dividing (t w s : ℕ) : Type 0 where
  pub divisor_positive : 0 < s
  pub part : w ≤ s
  pub divisor_small : s < 2 ^ 62
  pub factor_small : t < 2 ^ 62

-- a digit appended to the factor of a division of which quotient and remainder are known
pub record Appending (quotient remainder digit base w s : ℕ) : Type 0 where
  pub is_digit : digit < base
  pub part : w ≤ s
  pub reduced : remainder < s
  pub base_small : base ≤ 2 ^ 62
  pub room : base * s ≤ 2 ^ 63
  pub quotient_small : quotient * base < 2 ^ 62
