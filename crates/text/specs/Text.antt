-- Words and numbers as bytes (01, "The printed settlement").
-- Assumes nothing.
use Rattle.std.specs.Prelude.{ℕ, zero, suc, ◌+◌, ◌/◌, ◌%◌, Bool, true, false, List, [], ◌∷◌, ◌++◌, ltb, ℤ, pos, negsuc}
use Prim.Native.Char.{code}
use Prim.Native.String.{String, [] as empty, ◌∷◌ as ◌followed-by◌}

-- the bytes of a word
unfoldable pub bytes_of : String → List ℕ
bytes_of empty = []
bytes_of (letter followed-by rest) = code letter ∷ bytes_of rest

-- the decimal digits of a number, at most so many, told whether it is below 10
unfoldable pub digits : ℕ → Bool → ℕ → List ℕ
digits zero small n = []
digits (suc most) true n = (48 + n) ∷ []
digits (suc most) false n = digits most (ltb (n / 10) 10) (n / 10) ++ ((48 + n % 10) ∷ [])

-- all of them: a number has no more digits than one more than it counts
unfoldable pub decimal : ℕ → List ℕ
decimal n = digits (suc n) (ltb n 10) n

-- a negative number has its sign in front
unfoldable pub signed_decimal : ℤ → List ℕ
signed_decimal (pos n) = decimal n
signed_decimal (negsuc n) = bytes_of "-" ++ decimal (suc n)
