-- Masks as sets of numbers: what is in a mask with one number more or less and in two masks, and masks with the same bits are equal.
-- Assumes nothing.
use Prim.Native.Nat.{ℕ, zero, suc, ◌+◌, ◌-◌, ◌*◌, ◌/◌, ◌%◌, ◌^◌, min, max, ◌≤◌, ◌<◌}
use mathlib.Core.Path.{◌≡◌, refl, sym, ap, ap₂, ◌∙◌}
use mathlib.Core.Logic.{◌≢◌}
use mathlib.Core.Bool.{Bool, true, false, cond, ◌&&◌}
use native.Mathlib.Nat.{zero-div, div-one, mod-lt, div_self, div-eq_of_lt, pow-suc}
use native.Mathlib.Omega.{arith}
use native.Mathlib.Decide.{dec_lt}
use lib.Bits.{bit_and, and_step, and_shr, bit_or, or_step, or_zero_r, or_lt, or_shr, or_block}
use lib.Pow.{pow_pos, pow-lt, pow-add, shr-shr, split, high, shl-shr}
use lib.Dec.{eqb}
use borrow.Author.Tests.{eqb-true, eqb-false, eq-eqb, ne_eqb}
use Rattle.calls.specs.Masks.{has, including, excluding}

pub has-zero : (k : ℕ) → has 0 k ≡ false
unfolding has
has-zero k = rw zero-div refl

or-last : (a b : ℕ) → bit_or a b % 2 ≡ max (a % 2) (b % 2)
or-last a b = rw or_step (omega arith)

-- the bit of another number is clear in a power of 2
other-bit : (j k : ℕ) → j ≢ k → 2 ^ k / 2 ^ j % 2 ≡ 0
other-bit j k ne = go (dec_lt j k)
  where
    go : Dec (j < k) → 2 ^ k / 2 ^ j % 2 ≡ 0
    go (yes above) =
        let d : ℕ = k - suc j in
        let sum : k ≡ suc d + j = omega arith in
        let shifted : 2 ^ k ≡ 2 ^ suc d * 2 ^ j = ap (λ (n : ℕ). 2 ^ n) sum ∙ pow-add 2 (suc d) j in
        rw (shifted, shl-shr, pow-suc) (omega arith)
    go (no below) =
        let lt : k < j = omega (arith, below, ne) in
        rw (div-eq_of_lt (pow-lt lt)) refl

module _ (mask k : ℕ) where
  included-bit : including mask k / 2 ^ k % 2 ≡ 1
  unfolding including
  included-bit = rw (or_shr, div_self (pow_pos k), or-last) (omega arith)

  kept-bit : (j : ℕ) → j ≢ k → including mask k / 2 ^ j % 2 ≡ mask / 2 ^ j % 2
  unfolding including
  kept-bit j ne = rw (or_shr, or-last, other-bit j k ne) (omega arith)

  pub including-same : has (including mask k) k ≡ true
  unfolding has
  including-same = rw included-bit refl

  pub including-other : (j : ℕ) → j ≢ k → has (including mask k) j ≡ has mask j
  unfolding has
  including-other j ne = rw (kept-bit j ne) refl

  pub including-lt : (n : ℕ) → mask < 2 ^ n → k < n → including mask k < 2 ^ n
  unfolding including
  including-lt n small lt = or_lt n mask (2 ^ k) small (pow-lt lt)

-- a mask that has a number, and what is left without it
module _ (mask k : ℕ) (holds : has mask k ≡ true) where
  odd : mask / 2 ^ k % 2 ≡ 1
  unfolding has
  odd = eqb-true (mask / 2 ^ k % 2) 1 holds

  even : ℕ
  even = mask / 2 ^ k - 1

  one_more : even + 1 ≡ mask / 2 ^ k
  unfolding even
  one_more = omega (arith, odd)

  low-lt : mask % 2 ^ k < 2 ^ k
  low-lt = mod-lt mask (pow_pos k)

  without : mask - 2 ^ k ≡ even * 2 ^ k + mask % 2 ^ k
  without = omega (arith, split mask k, ap (λ (n : ℕ). n * 2 ^ k) one_more)

  without-same : has (mask - 2 ^ k) k ≡ false
  unfolding has
  without-same = rw (without, high even k low-lt) (ne_eqb (even % 2) 1 (λ e. omega (arith, one_more, odd, e)))

  -- the number included again gives the mask
  put_back : including (mask - 2 ^ k) k ≡ mask
  unfolding including
  put_back =
      let power : 2 ^ k ≡ 1 * 2 ^ k + 0 = omega arith in
      let bits : bit_or even 1 ≡ mask / 2 ^ k = rw (or_step, or_zero_r) (omega (arith, one_more, odd)) in
      let joined : bit_or even 1 * 2 ^ k + bit_or (mask % 2 ^ k) 0 ≡ mask = rw (bits, or_zero_r) (split mask k) in
      ap₂ bit_or without power ∙ or_block k even 1 (mask % 2 ^ k) 0 low-lt (pow_pos k) ∙ joined

pub excluding-same : (mask k : ℕ) → has (excluding mask k) k ≡ false
unfolding excluding
excluding-same mask k = go (has mask k) refl
  where
    go : (t : Bool) → has mask k ≡ t → has (cond t (mask - 2 ^ k) mask) k ≡ false
    go true e = without-same mask k e
    go false e = e

pub excluding-other : (mask k j : ℕ) → j ≢ k → has (excluding mask k) j ≡ has mask j
unfolding excluding
excluding-other mask k j ne = go (has mask k) refl
  where
    go : (t : Bool) → has mask k ≡ t → has (cond t (mask - 2 ^ k) mask) j ≡ has mask j
    go true e = sym (including-other (mask - 2 ^ k) k j ne) ∙ ap (λ (m : ℕ). has m j) (put_back mask k e)
    go false e = refl

pub excluding-le : (mask k : ℕ) → excluding mask k ≤ mask
unfolding excluding
excluding-le mask k = go (has mask k)
  where
    go : (t : Bool) → cond t (mask - 2 ^ k) mask ≤ mask
    go true = omega arith
    go false = omega arith

-- both laws of each change in one
pub including-has : (mask k j : ℕ) → has (including mask k) j ≡ cond (eqb j k) true (has mask j)
including-has mask k j = go (eqb j k) refl
  where
    go : (t : Bool) → eqb j k ≡ t → has (including mask k) j ≡ cond t true (has mask j)
    go true e = rw (eqb-true j k e) (including-same mask k)
    go false e = including-other mask k j (eqb-false j k e)

pub excluding-has : (mask k j : ℕ) → has (excluding mask k) j ≡ cond (eqb j k) false (has mask j)
excluding-has mask k j = go (eqb j k) refl
  where
    go : (t : Bool) → eqb j k ≡ t → has (excluding mask k) j ≡ cond t false (has mask j)
    go true e = rw (eqb-true j k e) (excluding-same mask k)
    go false e = excluding-other mask k j (eqb-false j k e)

-- the last digit of a common part
and-digit : (x y : ℕ) → eqb (bit_and x y % 2) 1 ≡ eqb (x % 2) 1 && eqb (y % 2) 1
and-digit x y = go (eqb (x % 2) 1) refl (eqb (y % 2) 1) refl
  where
    lesser : bit_and x y % 2 ≡ min (x % 2) (y % 2)
    lesser = rw and_step (omega arith)

    go : (s : Bool) → eqb (x % 2) 1 ≡ s → (t : Bool) → eqb (y % 2) 1 ≡ t → eqb (bit_and x y % 2) 1 ≡ s && t
    go true e true f = eq-eqb (bit_and x y % 2) 1 (omega (arith, lesser, eqb-true (x % 2) 1 e, eqb-true (y % 2) 1 f))
    go true e false f = ne_eqb (bit_and x y % 2) 1 (λ h. omega (arith, h, lesser, eqb-false (y % 2) 1 f))
    go false e t f = ne_eqb (bit_and x y % 2) 1 (λ h. omega (arith, h, lesser, eqb-false (x % 2) 1 e))

-- what is in the common part is in both masks
pub and-has : (a b k : ℕ) → has (bit_and a b) k ≡ has a k && has b k
unfolding has
and-has a b k = rw and_shr (and-digit (a / 2 ^ k) (b / 2 ^ k))

-- masks with the same bits
pub has-half : (mask k : ℕ) → has (mask / 2) k ≡ has mask (suc k)
unfolding has
has-half mask k =
    let sum : 1 + k ≡ suc k = omega arith in
    let shifted : mask / 2 / 2 ^ k ≡ mask / 2 ^ suc k = shr-shr mask 1 k ∙ ap (λ (n : ℕ). mask / 2 ^ n) sum in
    ap (λ (n : ℕ). eqb (n % 2) 1) shifted

has_first : (mask : ℕ) → has mask 0 ≡ eqb (mask % 2) 1
unfolding has
has_first mask = rw div-one refl

pub same-parity : (a b : ℕ) → eqb (a % 2) 1 ≡ eqb (b % 2) 1 → a % 2 ≡ b % 2
same-parity a b e = go (eqb (a % 2) 1) refl
  where
    go : (t : Bool) → eqb (a % 2) 1 ≡ t → a % 2 ≡ b % 2
    go true p = eqb-true (a % 2) 1 p ∙ sym (eqb-true (b % 2) 1 (sym e ∙ p))
    go false p = omega (arith, eqb-false (a % 2) 1 p, eqb-false (b % 2) 1 (sym e ∙ p))

pub same_bits : (n a b : ℕ) → a < 2 ^ n → b < 2 ^ n → ((k : ℕ) → k < n → has a k ≡ has b k) → a ≡ b
same_bits zero a b la lb each = omega arith
same_bits (suc n) a b la lb each =
    let power = pow-suc 2 n in
    let halves : a / 2 ≡ b / 2 =
    same_bits n (a / 2) (b / 2) (omega arith) (omega arith) (λ k lt. has-half a k ∙ each (suc k) (omega arith) ∙ sym (has-half b k)) in
    let lasts = same-parity a b (sym (has_first a) ∙ each 0 (omega arith) ∙ has_first b) in
    omega arith
