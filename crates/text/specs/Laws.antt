-- Decimal digits denote their number, and so distinct numbers have distinct ones. Proofs: proofs/DigitLaws.antt.
-- Assumes nothing.
use Rattle.std.specs.Prelude.{ℕ, ◌+◌, ◌*◌, ◌-◌, ◌≤◌, ◌≡◌, List, [], ◌∷◌, ℤ}
use Rattle.text.specs.Text.{decimal, signed_decimal}

-- the number that digits denote, after a number that those before them denote
unfoldable pub denoted : ℕ → List ℕ → ℕ
denoted before [] = before
denoted before (digit ∷ rest) = denoted (before * 10 + (digit - 48)) rest

-- every byte is one of the digits 0 to 9
abbrev pub AreDigits : List ℕ → Type 0
AreDigits [] = Unit {0}
AreDigits (digit ∷ rest) = (48 ≤ digit) × (digit ≤ 57) × AreDigits rest

pub record DigitsTell : Type 0 where
  pub digits_only : (n : ℕ) → AreDigits (decimal n)
  pub denotes : (n : ℕ) → denoted 0 (decimal n) ≡ n
  pub unsigned_told : (n m : ℕ) → decimal n ≡ decimal m → n ≡ m
  pub signed_told : (x y : ℤ) → signed_decimal x ≡ signed_decimal y → x ≡ y
