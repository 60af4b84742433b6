-- Sets of operators as the bits of a number (01: "The joined operators are sixteen bits of one number").
-- Assumes nothing.
use Rattle.std.specs.Prelude.{ℕ, ◌-◌, ◌/◌, ◌%◌, ◌^◌, Bool, cond, eqb}
use Rattle.std.specs.Int.Bits.{bit_or}

-- whether bit k is set
unfoldable pub has : ℕ → ℕ → Bool
has mask k = eqb (mask / 2 ^ k % 2) 1

-- the mask with bit k set
unfoldable pub including : ℕ → ℕ → ℕ
including mask k = bit_or mask (2 ^ k)

-- the mask with bit k clear
unfoldable pub excluding : ℕ → ℕ → ℕ
excluding mask k = cond (has mask k) (mask - 2 ^ k) mask

-- a mask of marks with an operator's mark set to 1 or 0
unfoldable pub remasked : ℕ → ℕ → ℕ → ℕ
remasked mask operator mark = cond (eqb mark 1) (including mask operator) (excluding mask operator)
