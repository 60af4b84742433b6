-- The decimal digits of a number: how many there are, and that distinct numbers have distinct ones, as specs/Laws.antt says.
-- Assumes nothing.
use Prim.Native.Nat.{ℕ, zero, suc, ◌+◌, ◌*◌, ◌-◌, ◌/◌, ◌%◌, ◌^◌, ◌≤◌, ◌<◌, max}
use mathlib.Core.Path.{◌≡◌, refl, sym, ap, ◌∙◌}
use mathlib.Core.Bool.{Bool, true, false}
use mathlib.Core.List.{List, [], ◌∷◌, ◌++◌}
use native.Mathlib.Nat.{pow-suc}
use native.Mathlib.Omega.{arith}
use lib.Dec.{ltb}
use lib.IntN.{ℤ, pos, negsuc, nat_abs}
use lib.ListN.{length, get_or, drop, length-append}
use borrow.Author.Tests.{lt-ltb, le-ltb, ltb-true, ltb-false}
use Rattle.text.specs.Text.{bytes_of, digits, decimal, signed_decimal}
use Rattle.text.specs.Laws.{denoted, AreDigits, DigitsTell}

-- that many or more digits allowed: the same digits
enough : (most more n : ℕ) → n < most → n < more → digits most (ltb n 10) n ≡ digits more (ltb n 10) n
unfolding digits
enough zero more n lt lt' = absurd (omega arith)
enough (suc most) zero n lt lt' = absurd (omega arith)
enough (suc most) (suc more) n lt lt' = go (ltb n 10) refl (λ large. enough most more (n / 10) (omega arith) (omega arith))
  where
    go : (t : Bool) → ltb n 10 ≡ t → (10 ≤ n → digits most (ltb (n / 10) 10) (n / 10) ≡ digits more (ltb (n / 10) 10) (n / 10))
        → digits (suc most) t n ≡ digits (suc more) t n
    go true small before = refl
    go false large before = ap (λ (l : List ℕ). l ++ ((48 + n % 10) ∷ [])) (before (ltb-false n 10 large))

pub decimal-small : (n : ℕ) → n < 10 → decimal n ≡ (48 + n) ∷ []
unfolding decimal digits
decimal-small n small = rw (lt-ltb n 10 small) refl

pub decimal-large : (n : ℕ) → 10 ≤ n → decimal n ≡ decimal (n / 10) ++ ((48 + n % 10) ∷ [])
unfolding decimal digits
decimal-large n large =
    rw (le-ltb n 10 large) (ap (λ (l : List ℕ). l ++ ((48 + n % 10) ∷ [])) (enough n (suc (n / 10)) (n / 10) (omega arith) (omega arith)))

pub decimal-length : (most n : ℕ) → n < 10 ^ suc most → length (decimal n) ≤ suc most
decimal-length zero n lt = rw (decimal-small n (omega (arith, pow-suc 10 0))) (omega arith)
decimal-length (suc most) n lt = go (ltb n 10) refl (decimal-length most (n / 10) (omega (arith, pow-suc 10 (suc most))))
  where
    go : (t : Bool) → ltb n 10 ≡ t → length (decimal (n / 10)) ≤ suc most → length (decimal n) ≤ suc (suc most)
    go true small before = rw (decimal-small n (ltb-true n 10 small)) (omega arith)
    go false large before = rw (decimal-large n (ltb-false n 10 large), length-append) (omega arith)

pub some-digit : (n : ℕ) → 1 ≤ length (decimal n)
some-digit n = go (ltb n 10) refl
  where
    go : (t : Bool) → ltb n 10 ≡ t → 1 ≤ length (decimal n)
    go true small = rw (decimal-small n (ltb-true n 10 small)) (omega arith)
    go false large = rw (decimal-large n (ltb-false n 10 large), length-append) (omega arith)

some-power : (n : ℕ) → 1 ≤ 10 ^ n
some-power zero = omega arith
some-power (suc n) = omega (arith, some-power n, pow-suc 10 n)

-- 0 has a digit, as 1 has
pub decimal-longer : (most n : ℕ) → 10 ^ most ≤ max n 1 → suc most ≤ length (decimal n)
decimal-longer zero n le = some-digit n
decimal-longer (suc most) n le =
    let large : 10 ≤ n = omega (arith, le, pow-suc 10 most, some-power most) in
    let rest = decimal-longer most (n / 10) (omega (arith, le, pow-suc 10 most, large)) in
    omega (arith, rest, ap length (decimal-large n large), length-append (decimal (n / 10)) ((48 + n % 10) ∷ []))

pub one-digit : (n : ℕ) → length (decimal n) ≤ 1 → n < 10
one-digit n few = go (ltb n 10) refl
  where
    go : (t : Bool) → ltb n 10 ≡ t → n < 10
    go true small = ltb-true n 10 small
    go false large =
        absurd (omega (arith, few, some-digit (n / 10), ap length (decimal-large n (ltb-false n 10 large)), length-append (decimal (n / 10)) ((48 + n % 10) ∷ [])))

pub many-digits : (n : ℕ) → 2 ≤ length (decimal n) → 10 ≤ n
many-digits n many = go (ltb n 10) refl
  where
    go : (t : Bool) → ltb n 10 ≡ t → 10 ≤ n
    go true small = absurd (omega (arith, many, ap length (decimal-small n (ltb-true n 10 small))))
    go false large = ltb-false n 10 large

pub signed-length : (x : ℤ) → nat_abs x < 10 ^ 20 → length (signed_decimal x) ≤ 21
unfolding signed_decimal bytes_of
signed-length (pos n) lt = omega (arith, decimal-length 19 n lt)
signed-length (negsuc n) lt = omega (arith, decimal-length 19 (suc n) lt)

-- the last digit
denoted-last : (xs : List ℕ) (before digit : ℕ) → denoted before (xs ++ (digit ∷ [])) ≡ denoted before xs * 10 + (digit - 48)
unfolding denoted
denoted-last [] before digit = refl
denoted-last (x ∷ xs) before digit = denoted-last xs (before * 10 + (x - 48)) digit

digits-denote : (most n : ℕ) → n < most → denoted 0 (digits most (ltb n 10) n) ≡ n
unfolding digits denoted
digits-denote zero n lt = absurd (omega arith)
digits-denote (suc most) n lt = go (ltb n 10) refl (λ large. digits-denote most (n / 10) (omega arith))
  where
    go : (t : Bool) → ltb n 10 ≡ t → (10 ≤ n → denoted 0 (digits most (ltb (n / 10) 10) (n / 10)) ≡ n / 10) → denoted 0 (digits (suc most) t n) ≡ n
    go true small before = omega arith
    go false large before = denoted-last (digits most (ltb (n / 10) 10) (n / 10)) 0 (48 + n % 10) ∙ omega (arith, before (ltb-false n 10 large))

denotes : (n : ℕ) → denoted 0 (decimal n) ≡ n
unfolding decimal
denotes n = digits-denote (suc n) n (omega arith)

unsigned_told : (n m : ℕ) → decimal n ≡ decimal m → n ≡ m
unsigned_told n m same = sym (denotes n) ∙ ap (denoted 0) same ∙ denotes m

-- one digit more
with-digit : (xs : List ℕ) (digit : ℕ) → AreDigits xs → 48 ≤ digit → digit ≤ 57 → AreDigits (xs ++ (digit ∷ []))
with-digit [] digit all least greatest = (least, greatest, tt)
with-digit (x ∷ xs) digit all least greatest = (all.0, all.1, with-digit xs digit all.2 least greatest)

only-digits : (most n : ℕ) (small : Bool) → ltb n 10 ≡ small → AreDigits (digits most small n)
unfolding digits
only-digits zero n small e = tt
only-digits (suc most) n true e = (omega arith, omega (arith, ltb-true n 10 e), tt)
only-digits (suc most) n false e =
    with-digit (digits most (ltb (n / 10) 10) (n / 10)) (48 + n % 10) (only-digits most (n / 10) (ltb (n / 10) 10) refl) (omega arith) (omega arith)

digits_only : (n : ℕ) → AreDigits (decimal n)
unfolding decimal
digits_only n = only-digits (suc n) n (ltb n 10) refl

-- no digit is a sign
first-digit : (most : ℕ) (small : Bool) (n : ℕ) → 48 ≤ get_or (digits most small n) 0 48
unfolding digits
first-digit zero small n = omega arith
first-digit (suc most) true n = omega arith
first-digit (suc most) false n = go (digits most (ltb (n / 10) 10) (n / 10)) (first-digit most (ltb (n / 10) 10) (n / 10))
  where
    go : (xs : List ℕ) → 48 ≤ get_or xs 0 48 → 48 ≤ get_or (xs ++ ((48 + n % 10) ∷ [])) 0 48
    go [] first = omega arith
    go (x ∷ xs) first = first

no_sign : (n : ℕ) (rest : List ℕ) → decimal n ≡ bytes_of "-" ++ rest → ⊥
unfolding decimal bytes_of
no_sign n rest same = omega (arith, first-digit (suc n) (ltb n 10) n, ap (λ (l : List ℕ). get_or l 0 48) same)

after-sign : (n m : ℕ) → bytes_of "-" ++ decimal (suc n) ≡ bytes_of "-" ++ decimal (suc m) → n ≡ m
unfolding bytes_of
after-sign n m same =
    let told_same : suc n ≡ suc m = unsigned_told (suc n) (suc m) (ap (drop 1) same) in
    omega arith

signed_told : (x y : ℤ) → signed_decimal x ≡ signed_decimal y → x ≡ y
unfolding signed_decimal
signed_told (pos n) (pos m) same = ap pos (unsigned_told n m same)
signed_told (pos n) (negsuc m) same = absurd (no_sign n _ same)
signed_told (negsuc n) (pos m) same = absurd (no_sign m _ (sym same))
signed_told (negsuc n) (negsuc m) same = ap negsuc (after-sign n m same)

pub digits-tell : DigitsTell
digits-tell = record { digits_only = digits_only; denotes = denotes; unsigned_told = unsigned_told; signed_told = signed_told }
