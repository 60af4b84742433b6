-- Masks that are partly written: the low bits of one mask before the high bits of another.
-- Assumes nothing.
use Prim.Native.Nat.{ℕ, suc, ◌+◌, ◌*◌, ◌/◌, ◌%◌, ◌^◌, ◌<◌}
use mathlib.Core.Path.{◌≡◌, refl, sym, ap, ap₂, ◌∙◌}
use mathlib.Core.Bool.{true, false}
use native.Mathlib.Nat.{mod-lt, mod-one, div-one, div-eq_of_lt, mod-eq_of_lt}
use native.Mathlib.Omega.{arith}
use lib.Bits.{bit_or, or_step, or_zero_r, or_block}
use lib.Pow.{pow_pos, mod-pow-add, split, high}
use borrow.Author.Tests.{eqb-true, eqb-false}
use Rattle.calls.specs.Masks.{has, including, excluding}
use Rattle.calls.proofs.MaskLaws.{same-parity}

-- one bit of a mask, and the low bits with it
module _ (mask k : ℕ) where
  bit-set : has mask k ≡ true → mask / 2 ^ k % 2 ≡ 1
  unfolding has
  bit-set e = eqb-true (mask / 2 ^ k % 2) 1 e

  bit-clear : has mask k ≡ false → mask / 2 ^ k % 2 ≡ 0
  unfolding has
  bit-clear e = omega (arith, eqb-false (mask / 2 ^ k % 2) 1 e)

  next-bits : mask % 2 ^ suc k ≡ mask / 2 ^ k % 2 * 2 ^ k + mask % 2 ^ k
  next-bits = let one : 1 + k ≡ suc k = omega arith in
      ap (λ (n : ℕ). mask % 2 ^ n) (sym one) ∙ mod-pow-add mask 1 k

-- the low bits of a mask, and the others of another
abbrev pub mix_bits : ℕ → ℕ → ℕ → ℕ
mix_bits k new old = old / 2 ^ k * 2 ^ k + new % 2 ^ k

module _ (new old k : ℕ) where
  -- the next bit taken from the one mask instead of the other
  one_bit : mix_bits k new old + new / 2 ^ k % 2 * 2 ^ k ≡ mix_bits (suc k) new old + old / 2 ^ k % 2 * 2 ^ k
  one_bit = omega (arith, split old k, split old (suc k), next-bits old k, next-bits new k)

  -- the same by the values of the two bits
  bits_are : {one other : ℕ} → new / 2 ^ k % 2 ≡ one → old / 2 ^ k % 2 ≡ other
      → mix_bits k new old + one * 2 ^ k ≡ mix_bits (suc k) new old + other * 2 ^ k
  bits_are is was = rw (is, was) at one_bit

  pub mix-bit-at : has (mix_bits k new old) k ≡ has old k
  unfolding has
  mix-bit-at = rw (high (old / 2 ^ k) k (mod-lt new (pow_pos k))) refl

  -- the next bit is the same in both
  pub mix-bit-same : has new k ≡ has old k → mix_bits k new old ≡ mix_bits (suc k) new old
  unfolding has
  mix-bit-same e = omega (arith, bits_are (same-parity (new / 2 ^ k) (old / 2 ^ k) e) refl)

  -- the next bit is cleared
  pub mix-cleared : has old k ≡ true → has new k ≡ false → excluding (mix_bits k new old) k ≡ mix_bits (suc k) new old
  unfolding excluding
  mix-cleared was is = rw (mix-bit-at ∙ was) (omega (arith, bits_are (bit-clear new k is) (bit-set old k was)))

  -- the next bit is set
  pub mix-included : has old k ≡ false → has new k ≡ true → including (mix_bits k new old) k ≡ mix_bits (suc k) new old
  unfolding including
  mix-included was is =
      let power : 2 ^ k ≡ 1 * 2 ^ k + 0 = omega arith in
      let next : bit_or (old / 2 ^ k) 1 ≡ old / 2 ^ k + 1 = rw (or_step, or_zero_r) (omega (arith, bit-clear old k was)) in
      let sum : (old / 2 ^ k + 1) * 2 ^ k + new % 2 ^ k ≡ mix_bits (suc k) new old =
      omega (arith, bits_are (bit-set new k is) (bit-clear old k was)) in
      ap₂ bit_or (refl {a = mix_bits k new old}) power ∙ or_block k (old / 2 ^ k) 1 (new % 2 ^ k) 0 (mod-lt new (pow_pos k)) (pow_pos k)
      ∙ rw (next, or_zero_r) sum

pub mix-no-bits : (new old : ℕ) → mix_bits 0 new old ≡ old
mix-no-bits new old = rw (div-one, mod-one) (omega arith)

pub mix-all-bits : (n new old : ℕ) → new < 2 ^ n → old < 2 ^ n → mix_bits n new old ≡ new
mix-all-bits n new old small small-old = rw (div-eq_of_lt small-old, mod-eq_of_lt small) (omega arith)
