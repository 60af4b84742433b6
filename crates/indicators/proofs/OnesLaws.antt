-- The ones of a mask are the numbers in it; and what is in a complement.
-- Assumes nothing.
use Prim.Native.Nat.{ℕ, zero, suc, ◌+◌, ◌-◌, ◌/◌, ◌%◌, ◌^◌, ◌<◌}
use mathlib.Core.Path.{◌≡◌, refl, sym, ap, ◌∙◌}
use mathlib.Core.Bool.{Bool, true, false, cond, not}
use native.Mathlib.Nat.{div-one, pow-suc}
use native.Mathlib.Omega.{arith}
use native.Mathlib.Decide.{dec_lt}
use lib.Count.{ones, ones_step, ones-le}
use lib.Dec.{eqb}
use lib.Pow.{pow_pos}
use borrow.Author.Tests.{eqb-true, eqb-false, eq-eqb, ne_eqb}
use Rattle.calls.specs.Masks.{has}
use Rattle.calls.proofs.MaskLaws.{has-zero, has-half, same_bits}
use Rattle.values.specs.Operators.{count}
use Rattle.values.proofs.CountLaws.{count-first, count_same, count_none, some-passes}

-- the lowest digit as a number
first-digit : (mask : ℕ) → cond (has mask 0) 1 0 ≡ mask % 2
unfolding has
first-digit mask = rw div-one (go (eqb (mask % 2) 1) refl)
  where
    go : (t : Bool) → eqb (mask % 2) 1 ≡ t → cond t 1 0 ≡ mask % 2
    go true e = sym (eqb-true (mask % 2) 1 e)
    go false e = omega (arith, eqb-false (mask % 2) 1 e)

pub ones-counted : (n mask : ℕ) → mask < 2 ^ n → ones mask ≡ count n (has mask)
unfolding count
ones-counted zero mask small = omega (arith, ones-le 0 mask small)
ones-counted (suc n) mask small =
    let power = pow-suc 2 n in
    let rest : ones (mask / 2) ≡ count n (λ (k : ℕ). has mask (suc k)) =
    ones-counted n (mask / 2) (omega arith) ∙ count_same n _ _ (λ k lt. has-half mask k) in
    ones_step mask ∙ omega (arith, rest, first-digit mask, count-first n (has mask))

-- a mask that is not 0 has a number
pub some_one : (n mask : ℕ) → mask < 2 ^ n → 0 < mask → (k : ℕ) × (k < n) × (has mask k ≡ true)
some_one n mask small pos = go (dec_lt 0 (count n (has mask)))
  where
    go : Dec (0 < count n (has mask)) → (k : ℕ) × (k < n) × (has mask k ≡ true)
    go (yes above) = some-passes n (has mask) above
    go (no none) =
        let nought : mask ≡ 0 =
        same_bits n mask 0 small (pow_pos n) (λ k lt. count_none n (has mask) (omega (arith, none)) k lt ∙ sym (has-zero k)) in
        absurd (omega arith)

-- the last digit of a complement
other-digit : (x y : ℕ) → x % 2 + y % 2 ≡ 1 → eqb (x % 2) 1 ≡ not (eqb (y % 2) 1)
other-digit x y sum = go (eqb (y % 2) 1) refl
  where
    go : (t : Bool) → eqb (y % 2) 1 ≡ t → eqb (x % 2) 1 ≡ not t
    go true e = ne_eqb (x % 2) 1 (λ h. omega (arith, h, sum, eqb-true (y % 2) 1 e))
    go false e = eq-eqb (x % 2) 1 (omega (arith, sum, eqb-false (y % 2) 1 e))

-- what is not in a mask is in its complement
pub complement : (n mask k : ℕ) → mask < 2 ^ n → k < n → has (2 ^ n - 1 - mask) k ≡ not (has mask k)
unfolding has
complement zero mask k small lt = absurd (omega arith)
complement (suc n) mask zero small lt =
    let power = pow-suc 2 n in
    rw (div-one (2 ^ suc n - 1 - mask), div-one mask) (other-digit (2 ^ suc n - 1 - mask) mask (omega arith))
complement (suc n) mask (suc k) small lt =
    let power = pow-suc 2 n in
    let half : (2 ^ suc n - 1 - mask) / 2 ≡ 2 ^ n - 1 - mask / 2 = omega arith in
    sym (has-half (2 ^ suc n - 1 - mask) k) ∙ ap (λ (m : ℕ). has m k) half ∙ complement n (mask / 2) k (omega arith) (omega arith) ∙ ap not (has-half mask k)
