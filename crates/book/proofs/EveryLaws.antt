-- A test at every number below n, as a fact about each number.
-- Assumes nothing.
use Prim.Native.Nat.{ℕ, zero, suc, ◌+◌, ◌<◌}
use mathlib.Core.Path.{◌≡◌, refl, sym, ◌∙◌}
use mathlib.Core.Bool.{Bool, true, false, ◌&&◌, false≢true}
use mathlib.Core.List.{List}
use native.Mathlib.Nat.{zero-add}
use native.Mathlib.Omega.{arith}
use native.Mathlib.Decide.{ℕ_discrete}
use lib.ListN.{length, get_or}
use Rattle.std.specs.List.{list_all, range_with_len}
use Rattle.std.proofs.lemmas.List.Elements.{All-from_get_or}
use Rattle.std.proofs.lemmas.List.Folds.{list_all_at}
use Rattle.std.proofs.lemmas.List.FromFn.{length-range_with_len, get_or-range_with_len}
use Rattle.std.proofs.lemmas.List.Sums.{list_all-from_AllPass}
use Rattle.book.specs.Book.{every}
use Rattle.calls.proofs.Flags.{and-true, and_left, and_right}

-- true at each number below n
pub every-of-each : (n : ℕ) (test : ℕ → Bool) → ((i : ℕ) → i < n → test i ≡ true) → every n test ≡ true
unfolding every
every-of-each zero test each = refl
every-of-each (suc n) test each = and-true (every-of-each n test (λ i lt. each i (omega arith))) (each n (omega arith))

pub each-of-every : (n : ℕ) (test : ℕ → Bool) → every n test ≡ true → (i : ℕ) → i < n → test i ≡ true
unfolding every
each-of-every zero test e i lt = absurd (omega arith)
each-of-every (suc n) test e i lt = go (ℕ_discrete i n) (each-of-every n test (and_left _ (test n) e) i)
  where
    go : Dec (i ≡ n) → (i < n → test i ≡ true) → test i ≡ true
    go (yes same) before = rw same (and_right (every n test) _ e)
    go (no other) before = before (omega (arith, other))

-- one failure is enough
pub every-fails : (n : ℕ) (test : ℕ → Bool) (i : ℕ) → i < n → test i ≡ false → every n test ≡ false
every-fails n test i lt failed = go (every n test) refl
  where
    go : (t : Bool) → every n test ≡ t → every n test ≡ false
    go true all = absurd (false≢true (sym failed ∙ each-of-every n test all i lt))
    go false none = none

-- a test that fails somewhere fails at a number
failing : (n : ℕ) (test : ℕ → Bool) → every n test ≡ false → (i : ℕ) × (i < n) × (test i ≡ false)
unfolding every
failing zero test e = absurd (false≢true (sym e))
failing (suc n) test e = go (every n test) refl (λ some. failing n test some) (test n) refl e
  where
    go : (before : Bool) → every n test ≡ before → (every n test ≡ false → (i : ℕ) × (i < n) × (test i ≡ false))
        → (last : Bool) → test n ≡ last → before && last ≡ false → (i : ℕ) × (i < suc n) × (test i ≡ false)
    go true all earlier true h both = absurd (false≢true (sym both))
    go true all earlier false h both = (n, omega arith, h)
    go false some earlier last h both = let found = earlier some in (found.0, omega (arith, found.1), found.2)

-- so what holds where each passes, and fails where one fails, is the test of all
pub told-by-every : (n : ℕ) (test : ℕ → Bool) {target : Bool} → (((i : ℕ) → i < n → test i ≡ true) → target ≡ true)
    → ((i : ℕ) → i < n → test i ≡ false → target ≡ false) → every n test ≡ target
told-by-every n test {target} hold fail = go (every n test) refl
  where
    go : (t : Bool) → every n test ≡ t → t ≡ target
    go true all = sym (hold (each-of-every n test all))
    go false some = let found = failing n test some in sym (fail found.0 found.1 found.2)

-- std's test of all numbers from a on, and of all elements
pub all-from : (a n : ℕ) (test : ℕ → Bool) → list_all test (range_with_len a n) ≡ every n (λ (k : ℕ). test (a + k))
all-from a n test =
    let all = range_with_len a n in
    sym (told-by-every n (λ (k : ℕ). test (a + k))
    (λ each. list_all-from_AllPass test all (All-from_get_or (λ (x : ℕ). test x ≡ true) all 0
    (λ k lt. let small : k < n = omega (arith, lt, length-range_with_len a n) in rw (get_or-range_with_len a n k 0 small) (each k small))))
    (λ k lt failed. list_all_at test all k 0 (omega (arith, lt, length-range_with_len a n)) (rw (get_or-range_with_len a n k 0 lt) failed)))

pub all-below : (n : ℕ) (test : ℕ → Bool) → list_all test (range_with_len 0 n) ≡ every n test
all-below n test = all-from 0 n test ∙ (λ i. every n (λ (k : ℕ). test (zero-add k i)))

pub all-elements : (xs : List ℕ) (test : ℕ → Bool) → list_all test xs ≡ every (length xs) (λ (k : ℕ). test (get_or xs k 0))
all-elements xs test =
    sym (told-by-every (length xs) (λ (k : ℕ). test (get_or xs k 0))
    (λ each. list_all-from_AllPass test xs (All-from_get_or (λ (x : ℕ). test x ≡ true) xs 0 each))
    (λ k lt failed. list_all_at test xs k 0 lt failed))
