-- The arithmetic of a product that is divided digit by digit.
-- Assumes nothing.
use mathlib.Core.Path.{◌≡◌, ◌∙◌, sym, ap, subst}
use Prim.Native.Nat.{ℕ, suc, ◌+◌, ◌-◌, ◌*◌, ◌/◌, ◌%◌, ◌^◌, ◌<◌, ◌≤◌}
use native.Mathlib.Nat.{mul-le-mul_right, mul-le-mul_left, le_of_mul-le-mul_right, pow-le-pow_right, div-le_of_le-mul, mul-add-div_right, mul-add-mod_self_right, div-eq_of_lt, mod-eq_of_lt, add-zero}
use native.Mathlib.Omega.{arith}
use native.Mathlib.Decide.{dec_le}
use lib.Dec.{lit<}
use lib.Pow.{shr-shr, split, pow-add}
use lib.Count.{count_leading_zeros, leading_length}
use Rattle.exact.specs.Division.{Appending}

-- the quotient of t * w by s is at most t, since w is at most s
pub quotient_le : (q s r t w : ℕ) → 0 < s → w ≤ s → q * s + r ≡ t * w → q ≤ t
quotient_le q s r t w pos le e =
    let wide : t * w ≤ t * s = mul-le-mul_left t le in
    let below : q * s ≤ t * s = omega (arith, e, wide) in
    le_of_mul-le-mul_right below pos

-- the division of t times w by s, t cut off at bit k
pub record CutOff (t w s k quotient remainder : ℕ) : Type 0 where
  pub bits : k ≤ 62
  pub reduced : remainder < s
  pub quotient_most : quotient ≤ t / 2 ^ k
  pub product : quotient * s + remainder ≡ t / 2 ^ k * w

-- before its first bit a number counts as 0
pub no_bits : (t : ℕ) → t < 2 ^ 64 → t / 2 ^ (64 - count_leading_zeros 64 t) ≡ 0
no_bits t h =
    let top = leading_length 64 t h in
    let length : 64 - count_leading_zeros 64 t ≡ top.0 = omega (arith, top.1) in
    rw length (div-eq_of_lt top.2)

-- a number below 2^62 leaves two bits free
pub two-free : (n : ℕ) → n < 2 ^ 62 → 2 ≤ count_leading_zeros 64 n
two-free n small =
    let top = leading_length 64 n (omega arith) in
    go top.0 top.1 top.3 (dec_le top.0 62)
  where
    go : (m : ℕ) → count_leading_zeros 64 n + m ≡ 64 → 2 ^ m ≤ 2 * n + 1 → Dec (m ≤ 62) → 2 ≤ count_leading_zeros 64 n
    go m sum most (yes le) = omega (arith, sum, le)
    go m sum most (no gt) =
        let long : 63 ≤ m = omega (arith, gt) in
        let power : 2 ^ 63 ≤ 2 ^ m = pow-le-pow_right (lit< tt) long in
        absurd (omega (arith, power, most, small))

-- a digit of one bit fewer than a number leaves free, times the number, leaves one free
pub digit_room : (s n : ℕ) → s < 2 ^ 62 → n ≤ count_leading_zeros 64 s - 1 → 2 ^ n * s ≤ 2 ^ 63
digit_room s n small le =
    let top = leading_length 64 s (omega arith) in
    let free = two-free s small in
    let sum : count_leading_zeros 64 s - 1 + top.0 ≡ 63 = omega (arith, top.1) in
    let power : 2 ^ (count_leading_zeros 64 s - 1) * 2 ^ top.0 ≡ 2 ^ 63 = sym (pow-add 2 (count_leading_zeros 64 s - 1) top.0) ∙ ap (λ (m : ℕ). 2 ^ m) sum in
    let wide : 2 ^ n * s ≤ 2 ^ (count_leading_zeros 64 s - 1) * s = mul-le-mul_right s (pow-le-pow_right (lit< tt) le) in
    let above : 2 ^ (count_leading_zeros 64 s - 1) * s ≤ 2 ^ (count_leading_zeros 64 s - 1) * 2 ^ top.0 = mul-le-mul_left (2 ^ (count_leading_zeros 64 s - 1)) (omega (arith, top.2)) in
    omega (arith, power, wide, above)

-- t cut off a digit later is t cut off here times the digits' base, and the digit
pub longer : (t k n : ℕ) → n ≤ k → t / 2 ^ (k - n) ≡ 2 ^ n * (t / 2 ^ k) + t / 2 ^ (k - n) % 2 ^ n
longer t k n le =
    let back : k - n + n ≡ k = omega arith in
    omega (arith, ap (λ (z : ℕ). z * 2 ^ n) (rw back at (shr-shr t (k - n) n)), split (t / 2 ^ (k - n)) n)

-- a division of t cut off at bit k, with the next digit appended, is the division of t cut off a digit later
pub appended : (t w s k n q r q' r' : ℕ) → n ≤ k → q * s + r ≡ t / 2 ^ k * w
    → q' * s + r' ≡ 2 ^ n * (q * s + r) + t / 2 ^ (k - n) % 2 ^ n * w → q' * s + r' ≡ t / 2 ^ (k - n) * w
appended t w s k n q r q' r' le e e' =
    omega (arith, ap (λ (z : ℕ). 2 ^ n * z) e, e', ap (λ (z : ℕ). z * w) (longer t k n le))

-- what is divided when a digit is appended: its two parts are small, and so is what they give
module _ {q r digit base w s : ℕ} (appending : Appending q r digit base w s) where
  pub parts_small : (r * base + base ≤ base * s) × (digit * w + s ≤ base * s)
  parts_small =
      let first : suc r * base ≤ s * base = mul-le-mul_right base appending.reduced in
      let second : suc digit * s ≤ base * s = mul-le-mul_right s appending.is_digit in
      let third : digit * w ≤ digit * s = mul-le-mul_left digit appending.part in
      (omega (arith, first), omega (arith, second, third))

  pub digits-small : (r * base + digit * w) / s ≤ 2 * base
  digits-small = div-le_of_le-mul s (omega (arith, parts_small.0, parts_small.1))

-- quotient and remainder are determined
pub divided : (q s r n : ℕ) → 0 < s → r < s → q * s + r ≡ n → (q ≡ n / s) × (r ≡ n % s)
divided q s r n pos lt e = (
  subst (λ (m : ℕ). q ≡ m / s) e (sym (mul-add-div_right pos q r ∙ ap (λ (z : ℕ). q + z) (div-eq_of_lt lt) ∙ add-zero q)),
  subst (λ (m : ℕ). r ≡ m % s) e (sym (mul-add-mod_self_right q s r ∙ mod-eq_of_lt lt)),
)
