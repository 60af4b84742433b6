-- Laws of counts: bounds, when one is above 0, and tests that agree.
-- Assumes nothing.
use Prim.Native.Nat.{ℕ, zero, suc, ◌+◌, ◌≤◌, ◌<◌, zero-le}
use mathlib.Core.Path.{◌≡◌, refl}
use mathlib.Core.Bool.{Bool, true, false, cond}
use native.Mathlib.Numerals.{add-one}
use native.Mathlib.Omega.{arith}
use native.Mathlib.Decide.{ℕ_discrete}
use Rattle.values.specs.Operators.{count}

-- whichever of two numbers is taken, a bound on both bounds it
pub cond-le : (t : Bool) {x y most : ℕ} → x ≤ most → y ≤ most → cond t x y ≤ most
cond-le true first second = first
cond-le false first second = second

-- one number more
pub count-more : (n : ℕ) (test : ℕ → Bool) → count (n + 1) test ≡ count n test + cond (test n) 1 0
unfolding count
count-more n test = rw add-one refl

pub count-le : (n : ℕ) (test : ℕ → Bool) → count n test ≤ n
unfolding count
count-le zero test = omega arith
count-le (suc n) test = omega (arith, count-le n test, digit (test n))
  where
    digit : (t : Bool) → cond t 1 0 ≤ 1
    digit t = cond-le t (omega arith) (omega arith)

pub count-positive : (n : ℕ) (test : ℕ → Bool) (k : ℕ) → k < n → test k ≡ true → 0 < count n test
unfolding count
count-positive zero test k lt passed = absurd (omega arith)
count-positive (suc n) test k lt passed = go (ℕ_discrete k n) (count-positive n test k)
  where
    go : Dec (k ≡ n) → (k < n → test k ≡ true → 0 < count n test) → 0 < count n test + cond (test n) 1 0
    go (yes same) before = rw (← same, passed) (omega arith)
    go (no other) before = omega (arith, before (omega (arith, other)) passed)

-- where none is counted, none passes
pub count_none : (n : ℕ) (test : ℕ → Bool) → count n test ≡ 0 → (k : ℕ) → k < n → test k ≡ false
count_none n test none k lt = go (test k) refl
  where
    go : (t : Bool) → test k ≡ t → test k ≡ false
    go true passed = absurd (omega (arith, none, count-positive n test k lt passed))
    go false failed = failed

-- a count above 0 has a number that passes
pub some-passes : (n : ℕ) (test : ℕ → Bool) → 0 < count n test → (k : ℕ) × (k < n) × (test k ≡ true)
unfolding count
some-passes zero test pos = absurd (omega arith)
some-passes (suc n) test pos = go (test n) refl (some-passes n test) pos
  where
    go : (t : Bool) → test n ≡ t → (0 < count n test → (k : ℕ) × (k < n) × (test k ≡ true)) → 0 < count n test + cond t 1 0
        → (k : ℕ) × (k < suc n) × (test k ≡ true)
    go true passed before above = (n, omega arith, passed)
    go false failed before above =
        let found = before (omega arith) in
        (found.0, omega (arith, found.1), found.2)

-- the same test, counted from its first number
pub count-first : (n : ℕ) (test : ℕ → Bool) → count (suc n) test ≡ cond (test 0) 1 0 + count n (λ (k : ℕ). test (suc k))
unfolding count
count-first zero test = omega arith
count-first (suc n) test = omega (arith, count-first n test)

pub count_same : (n : ℕ) (test other : ℕ → Bool) → ((k : ℕ) → k < n → test k ≡ other k) → count n test ≡ count n other
unfolding count
count_same zero test other same = refl
count_same (suc n) test other same =
    rw (count_same n test other (λ k lt. same k (omega arith)), same n (omega arith)) refl

-- a test that passes less often counts less
pub count-mono : (n : ℕ) (test other : ℕ → Bool) → ((k : ℕ) → test k ≡ true → other k ≡ true) → count n test ≤ count n other
unfolding count
count-mono zero test other passes = omega arith
count-mono (suc n) test other passes = omega (arith, count-mono n test other passes, go (test n) refl)
  where
    go : (t : Bool) → test n ≡ t → cond t 1 0 ≤ cond (other n) 1 0
    go true passed = rw (passes n passed) (omega arith)
    go false failed = zero-le
