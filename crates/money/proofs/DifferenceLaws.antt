-- Differences of natural numbers: how they add up over a table, and how large they are.
-- Assumes nothing.
use Prim.Native.Nat.{ℕ, zero, suc, ◌+◌, ◌-◌, max, ◌≤◌, ◌<◌}
use mathlib.Core.Path.{◌≡◌, refl, sym, ap, ap₂, ◌∙◌}
use mathlib.Core.List.{List, [], ◌∷◌, ◌++◌}
use native.Mathlib.Omega.{arith}
use native.Mathlib.Decide.{dec_lt}
use lib.IntN.{ℤ, pos, negsuc, nat_abs, sub_ℕ, ◌+ℤ◌, +ℤ_idl, +ℤ_idr, +ℤ_assoc}
use lib.ListN.{length, get_or}
use lib.Seq.{ext_get_or}
use borrow.Author.Tests.{lt-ltb, le-ltb}
use Rattle.apportion.specs.Sum.{sum}
use Rattle.values.specs.Operators.{table}
use Rattle.values.proofs.Tables.{length-table, table_at, table-sum}
use Rattle.money.specs.Money.{sumℤ}

-- a difference by its sign
below : (a b : ℕ) → a < b → sub_ℕ a b ≡ negsuc (b - suc a)
below a b lt = rw (lt-ltb a b lt) refl

above : (a b : ℕ) → b ≤ a → sub_ℕ a b ≡ pos (a - b)
above a b le = rw (le-ltb a b le) refl

pub none_left : (a : ℕ) → sub_ℕ a a ≡ pos 0
none_left a = above a a (omega arith) ∙ ap pos (omega arith)

-- no difference passes the larger number
pub difference-most : (a b : ℕ) → nat_abs (sub_ℕ a b) ≤ max a b
difference-most a b = go (dec_lt a b)
  where
    go : Dec (a < b) → nat_abs (sub_ℕ a b) ≤ max a b
    go (yes lt) = rw (below a b lt) (omega arith)
    go (no ge) = rw (above a b (omega (arith, ge))) (omega arith)

same-difference : (a b c d : ℕ) → a + d ≡ c + b → sub_ℕ a b ≡ sub_ℕ c d
same-difference a b c d e = go (dec_lt a b)
  where
    go : Dec (a < b) → sub_ℕ a b ≡ sub_ℕ c d
    go (yes lt) = below a b lt ∙ ap negsuc (omega arith) ∙ sym (below c d (omega arith))
    go (no ge) = let le : b ≤ a = omega (arith, ge) in above a b le ∙ ap pos (omega arith) ∙ sym (above c d (omega arith))

pub differences-add : (a b c d : ℕ) → sub_ℕ a b +ℤ sub_ℕ c d ≡ sub_ℕ (a + c) (b + d)
differences-add a b c d = go (dec_lt a b) (dec_lt c d)
  where
    go : Dec (a < b) → Dec (c < d) → sub_ℕ a b +ℤ sub_ℕ c d ≡ sub_ℕ (a + c) (b + d)
    go (yes lt) (yes lt') = rw (below a b lt, below c d lt', below (a + c) (b + d) (omega arith)) (ap negsuc (omega arith))
    go (yes lt) (no ge) =
        let le : d ≤ c = omega (arith, ge) in
        rw (below a b lt, above c d le) (same-difference (c - d) (suc (b - suc a)) (a + c) (b + d) (omega arith))
    go (no ge) (yes lt) =
        let le : b ≤ a = omega (arith, ge) in
        rw (above a b le, below c d lt) (same-difference (a - b) (suc (d - suc c)) (a + c) (b + d) (omega arith))
    go (no ge) (no ge') =
        let le : b ≤ a = omega (arith, ge) in
        let le' : d ≤ c = omega (arith, ge') in
        rw (above a b le, above c d le', above (a + c) (b + d) (omega arith)) (ap pos (omega arith))

sumℤ-append : (xs ys : List ℤ) → sumℤ (xs ++ ys) ≡ sumℤ xs +ℤ sumℤ ys
unfolding sumℤ
sumℤ-append [] ys = sym (+ℤ_idl (sumℤ ys))
sumℤ-append (x ∷ xs) ys = ap (λ (z : ℤ). x +ℤ z) (sumℤ-append xs ys) ∙ sym (+ℤ_assoc x (sumℤ xs) (sumℤ ys))

-- the sum of a table of differences is the difference of the sums
pub differences-sum : (f g : ℕ → ℕ) (n : ℕ) → sumℤ (table n (λ (k : ℕ). sub_ℕ (f k) (g k))) ≡ sub_ℕ (sum (table n f)) (sum (table n g))
unfolding table sumℤ sum
differences-sum f g zero = refl
differences-sum f g (suc n) =
    sumℤ-append (table n (λ (k : ℕ). sub_ℕ (f k) (g k))) (sub_ℕ (f n) (g n) ∷ [])
    ∙ ap₂ ◌+ℤ◌ (differences-sum f g n) (+ℤ_idr (sub_ℕ (f n) (g n)))
    ∙ differences-add (sum (table n f)) (sum (table n g)) (f n) (g n)
    ∙ ap₂ sub_ℕ (sym (table-sum f n)) (sym (table-sum g n))

-- the table of a list's elements is the list
pub table_of : (l : List ℕ) (n : ℕ) → length l ≡ n → table n (λ (k : ℕ). get_or l k 0) ≡ l
table_of l n long =
    ext_get_or 0 _ l (length-table _ n ∙ sym long) (λ i lt. table_at (λ (k : ℕ). get_or l k 0) n i 0 (rw length-table at lt))
