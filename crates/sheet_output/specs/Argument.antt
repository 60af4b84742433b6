-- A number of one byte as a program's argument gives it: one to three decimal digits. Proof that each is read: proofs/ArgumentLaws.antt.
-- Assumes nothing.
use Rattle.std.specs.Prelude.{ℕ, ◌+◌, ◌*◌, ◌-◌, ◌≡◌, Bool, cond, ◌&&◌, List, leb, eqb, length, get_or, Option, Some, None}
use Rattle.text.specs.Text.{decimal}

-- "0" is 48, "9" is 57
unfoldable pub is_digit : ℕ → Bool
is_digit byte = leb 48 byte && leb byte 57

unfoldable pub value_of : ℕ → ℕ → ℕ → ℕ
value_of hundreds tens ones = 100 * (hundreds - 48) + 10 * (tens - 48) + (ones - 48)

-- three digits, up to 255
unfoldable pub of_digits : ℕ → ℕ → ℕ → Option ℕ
of_digits hundreds tens ones =
    cond (is_digit hundreds && is_digit tens && is_digit ones && leb (value_of hundreds tens ones) 255) (Some (value_of hundreds tens ones)) None

-- digits that are not there count as 0
unfoldable pub argument_of : List ℕ → Option ℕ
argument_of text =
    cond (eqb (length text) 1) (of_digits 48 48 (get_or text 0 0))
    (cond (eqb (length text) 2) (of_digits 48 (get_or text 0 0) (get_or text 1 0))
    (cond (eqb (length text) 3) (of_digits (get_or text 0 0) (get_or text 1 0) (get_or text 2 0)) None))

-- a number written in digits is read as itself
abbrev pub ReadBack : ℕ → Type 0
ReadBack n = argument_of (decimal n) ≡ Some n
