-- Every joined operator marked at all indicators: nobody takes part at any, indicator by indicator.
-- Assumes nothing.
use Prim.Native.Nat.{ℕ, zero, suc, ◌^◌, ◌<◌}
use mathlib.Core.Path.{◌≡◌, refl, sym, ap, ◌∙◌}
use mathlib.Core.Bool.{Bool, true, false, not, ◌&&◌, ◌||◌}
use mathlib.Core.List.{List, [], ◌∷◌}
use native.Mathlib.Omega.{arith}
use lib.Dec.{eqb}
use borrow.Author.Tests.{eqb-true, eqb-false}
use Rattle.calls.specs.Masks.{has}
use Rattle.calls.proofs.MaskLaws.{has-zero}
use Rattle.book.specs.declared.Book.{Book}
use Rattle.book.specs.Book.{is_joined, is_marked, within_limits, every}
use Rattle.book.proofs.EveryLaws.{every-of-each, every-fails}
use Rattle.calls.specs.Indicators.{Indicator}
use Rattle.values.specs.Indicator.{reliable_mask}
use Rattle.indicators.proofs.OnesLaws.{some_one}
use Rattle.indicators.proofs.PointLaws.{reliable-small, reliable_exactly}
use Rattle.readiness.specs.Readiness.{is_marked_at_all, all_marked}

or-true : (s : Bool) → not s || true ≡ true
or-true true = refl
or-true false = refl

-- a mask without a number in it is 0
mask-none : (n mask : ℕ) → mask < 2 ^ n → every n (λ (k : ℕ). not (has mask k)) ≡ eqb mask 0
mask-none n mask small = go (eqb mask 0) refl
  where
    go : (t : Bool) → eqb mask 0 ≡ t → every n (λ (k : ℕ). not (has mask k)) ≡ t
    go true e = every-of-each n _ (λ k lt. rw (eqb-true mask 0 e, has-zero k) refl)
    go false e =
        let found = some_one n mask small (omega (arith, eqb-false mask 0 e)) in
        every-fails n _ found.0 found.1 (rw found.2 refl)

-- of those joined: one indicator's marks and the rest
split : (j m a : Bool) → not j || (m && a) ≡ not (j && not m) && (not j || a)
split true true a = refl
split true false a = refl
split false m a = refl

every-split : (n : ℕ) (j m a : ℕ → Bool)
    → every n (λ (k : ℕ). not (j k) || (m k && a k)) ≡ every n (λ (k : ℕ). not (j k && not (m k))) && every n (λ (k : ℕ). not (j k) || a k)
unfolding every
every-split zero j m a = refl
every-split (suc n) j m a =
    rw (every-split n j m a, split (j n) (m n) (a n)) (go (every n (λ (k : ℕ). not (j k && not (m k)))) (not (j n && not (m n))) (every n (λ (k : ℕ). not (j k) || a k)) _)
  where
    go : (s t u v : Bool) → (s && u) && (t && v) ≡ (s && t) && (u && v)
    go true true u v = refl
    go true false true v = refl
    go true false false v = refl
    go false t u v = refl

every-same : (n : ℕ) (test other : ℕ → Bool) → ((k : ℕ) → k < n → test k ≡ other k) → every n test ≡ every n other
unfolding every
every-same zero test other same = refl
every-same (suc n) test other same = rw (every-same n test other (λ k lt. same k (omega arith)), same n (omega arith)) refl

pub marked-none : (b : Book) → all_marked b [] ≡ true
unfolding all_marked is_marked_at_all
marked-none b = every-of-each 16 _ (λ k lt. or-true (is_joined b k))

pub marked_more : (b : Book) → within_limits b ≡ true → (indicator : Indicator) (rest : List Indicator)
    → all_marked b (indicator ∷ rest) ≡ eqb (reliable_mask b indicator) 0 && all_marked b rest
unfolding all_marked is_marked_at_all
marked_more b ranged indicator rest =
    every-split 16 (is_joined b) (λ (k : ℕ). is_marked b k indicator.number) _
    ∙ ap (λ (t : Bool). t && all_marked b rest)
    (every-same 16 _ _ (λ k lt. ap not (sym (reliable_exactly b indicator ranged k lt)))
    ∙ mask-none 16 (reliable_mask b indicator) (reliable-small b indicator ranged))
