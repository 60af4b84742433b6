-- The content of a field: its numbers, and the call that a tag's content gives (01, "The filing").
-- Assumes nothing.
use Rattle.std.specs.Prelude.{ℕ, ◌+◌, ◌*◌, ◌-◌, ◌^◌, Bool, cond, ◌&&◌, List, [], ◌∷◌, leb, ltb, ℤ, pos, length, get_or, take, drop}
use Rattle.std.proofs.Math.IntN.{sub_ℕ}
use Rattle.calls.specs.declared.Call.{Call}
use Rattle.calls.specs.declared.Call.TheVariants.{Join, Setting, Interruption, Amount, Mark, Rates, Index}

-- "Numbers are big-endian"
unfoldable pub big_endian : List ℕ → ℕ
big_endian [] = 0
big_endian (byte ∷ rest) = byte * 256 ^ length rest + big_endian rest

-- "u" unsigned: so many bytes from a place on
unfoldable pub unsigned : ℕ → List ℕ → ℕ → ℕ
unsigned width bytes at = big_endian (take width (drop at bytes))

-- "i" two's complement, of 64 bits
unfoldable pub twos_complement : ℕ → ℤ
twos_complement bits = cond (ltb bits (2 ^ 63)) (pos bits) (sub_ℕ bits (2 ^ 64))

unfoldable pub signed : List ℕ → ℕ → ℤ
signed bytes at = twos_complement (unsigned 8 bytes at)

-- "a value without either is one byte"
abbrev pub byte : List ℕ → ℕ → ℕ
byte bytes at = get_or bytes at 0

-- a tag: how many bytes its content has, and the call that they give
pub record Tag : Type 0 where
  pub size : ℕ
  pub call : List ℕ → Call

-- the table of 01, tags 1 to 7
unfoldable pub tags : List Tag
tags =
    record { size = 1; call = λ (c : List ℕ). Join (byte c 0) }
    ∷ record { size = 10; call = λ (c : List ℕ). Setting (byte c 0) (byte c 1) (unsigned 8 c 2) }
    ∷ record { size = 24; call = λ (c : List ℕ). Interruption (byte c 0) (byte c 1) (byte c 2) (byte c 3) (signed c 4) (signed c 12) (unsigned 4 c 20) }
    ∷ record { size = 12; call = λ (c : List ℕ). Amount (byte c 0) (byte c 1) (byte c 2) (byte c 3) (unsigned 8 c 4) }
    ∷ record { size = 3; call = λ (c : List ℕ). Mark (byte c 0) (byte c 1) (byte c 2) }
    ∷ record { size = 8; call = λ (c : List ℕ). Rates (unsigned 4 c 0) (unsigned 4 c 4) }
    ∷ record { size = 5; call = λ (c : List ℕ). Index (byte c 0) (unsigned 4 c 1) }
    ∷ []

unfoldable pub is_known : ℕ → Bool
is_known tag = leb 1 tag && leb tag (length tags)

-- a known tag's line of the table
unfoldable pub tagged : ℕ → Tag
tagged tag = get_or tags (tag - 1) (record { size = 0; call = λ (c : List ℕ). Join 0 })
