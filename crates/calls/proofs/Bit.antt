-- One bit of a mask, as the code tests, sets and clears it.
-- Assumes nothing.
use mathlib.Core.Path.{◌≡◌, refl}
use mathlib.Core.Bool.{true, false}
use Prim.Native.Nat.{ℕ, ◌*◌, ◌/◌, ◌%◌, ◌^◌, ◌≤◌, ◌<◌}
use native.Mathlib.Nat.{lt_of_lt_of_le, div-eq_of_lt, one-mul, zero-div}
use native.Mathlib.Omega.{arith}
use native.Mathlib.Decide.{dec_lt}
use lib.Dec.{lit<}
use lib.Pow.{pow_mono, shl_exact}
use borrow.Author.Tests.{eqb-true}
use Rattle.calls.specs.Masks.{has}

-- a mask of sixteen bits has no other bit
pub has-high : (mask k : ℕ) → mask < 2 ^ 16 → 16 ≤ k → has mask k ≡ false
unfolding has
has-high mask k small high = rw (div-eq_of_lt (lt_of_lt_of_le small (pow_mono high))) refl

-- a set bit is part of the mask
pub has-le : (mask k : ℕ) → has mask k ≡ true → 2 ^ k ≤ mask
unfolding has
has-le mask k set = go (dec_lt mask (2 ^ k))
  where
    go : Dec (mask < 2 ^ k) → 2 ^ k ≤ mask
    go (yes below) =
        let none : mask / 2 ^ k ≡ 0 = div-eq_of_lt below in
        absurd (omega (arith, none, eqb-true (mask / 2 ^ k % 2) 1 set))
    go (no above) = omega (arith, above)

-- the shifted one of the code is the power
pub shifted : (k : ℕ) → k < 16 → 1 * 2 ^ k % 2 ^ 16 ≡ 2 ^ k
shifted k small = rw (shl_exact 1 k 16 (lit< tt) (omega arith), one-mul) refl

-- no bit of 0 is set
pub has-none : (k : ℕ) → has 0 k ≡ false
unfolding has
has-none k = rw (zero-div (2 ^ k)) refl
