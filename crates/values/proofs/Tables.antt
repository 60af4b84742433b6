-- Laws of numbers by operator: what stands at a place of a table, sums of tables, and arrays made by a closure.
-- Assumes nothing.
use Prim.Native.Nat.{ℕ, zero, suc, ◌+◌, ◌*◌, ◌≤◌, ◌<◌}
use mathlib.Core.Path.{◌≡◌, refl, sym, ◌∙◌}
use mathlib.Core.List.{List, [], ◌∷◌, ◌++◌}
use native.Mathlib.Omega.{arith}
use native.Mathlib.Decide.{ℕ_discrete, dec_lt}
use lib.ListN.{length, get_or, length-append, get_or-append, get_or-eq_default}
use lib.Seq.{get_or_at, ext_get_or}
use denote.Param.Members.{Mut, Called}
use Rattle.std.specs.Array.{IsFromFnResult}
use Rattle.apportion.specs.Sum.{sum}
use Rattle.apportion.proofs.Sums.{sum-append, sum_bound, element-le}
use Rattle.apportion.proofs.FromFn.{made_at}
use Rattle.values.specs.Operators.{table, each}

module _ {A : Type 0} (f : ℕ → A) where
  pub length-table : (n : ℕ) → length (table n f) ≡ n
  unfolding table
  length-table zero = refl
  length-table (suc n) = rw (length-append, length-table n) (omega arith)

  pub table_at : (n k : ℕ) (d : A) → k < n → get_or (table n f) k d ≡ f k
  unfolding table
  table_at zero k d lt = absurd (omega arith)
  table_at (suc n) k d lt = go (ℕ_discrete k n) (table_at n k d)
    where
      go : Dec (k ≡ n) → (k < n → get_or (table n f) k d ≡ f k) → get_or (table n f ++ (f n ∷ [])) k d ≡ f k
      go (yes same) before = rw same (get_or_at (table n f) (f n) [] d n (length-table n))
      go (no other) before =
          let less : k < n = omega (arith, other) in
          get_or-append (table n f) _ d k (rw (length-table n) less) ∙ before less

-- what a closure that leaves its captures as they were makes of each of sixteen indices
module _ {F A : Type 0} (g : Mut F (ℕ × Unit {0}) A) (p : F) (f : ℕ → A) (step : (i : ℕ) (y : A) (q : F) → i < 16 → Called g p (i, tt {0}) y q → (y ≡ f i) × (q ≡ p)) where
  pub made-table : (ys : List A) → IsFromFnResult g p ys 16 → ys ≡ table 16 f
  made-table ys made =
      ext_get_or (f 0) ys (table 16 f) (made.long ∙ sym (length-table f 16)) (λ k lt.
      let inside : k < 16 = rw made.long at lt in
      made_at g p 16 f step ys made (f 0) k inside ∙ sym (table_at f 16 k (f 0) inside))

-- tables of functions that agree
table_same : {A : Type 0} (f g : ℕ → A) (n : ℕ) → ((k : ℕ) → k < n → f k ≡ g k) → table n f ≡ table n g
unfolding table
table_same f g zero same = refl
table_same f g (suc n) same = rw (table_same f g n (λ k lt. same k (omega arith)), same n (omega arith)) refl

-- the sum of a table with one more number
pub table-sum : (f : ℕ → ℕ) (n : ℕ) → sum (table (suc n) f) ≡ sum (table n f) + f n
unfolding table sum
table-sum f n = rw sum-append (omega arith)

-- the same for the sixteen operators
module _ (f : ℕ → ℕ) where
  pub length-each : length (each f) ≡ 16
  unfolding each
  length-each = length-table f 16

  pub each_at : (k : ℕ) → k < 16 → get_or (each f) k 0 ≡ f k
  unfolding each
  each_at k lt = table_at f 16 k 0 lt

  pub each_same : (g : ℕ → ℕ) → ((k : ℕ) → k < 16 → f k ≡ g k) → each f ≡ each g
  unfolding each
  each_same g same = table_same f g 16 same

  -- what stands at a place is at most the sum
  pub each-le-sum : (k : ℕ) → k < 16 → f k ≤ sum (each f)
  each-le-sum k lt = omega (arith, element-le (each f) k, each_at k lt)

  -- numbers that stay below a bound
  module _ (bound : ℕ) (below : (k : ℕ) → k < 16 → f k ≤ bound) where
    pub each-le : (k : ℕ) → get_or (each f) k 0 ≤ bound
    each-le k = go (dec_lt k 16)
      where
        go : Dec (k < 16) → get_or (each f) k 0 ≤ bound
        go (yes inside) = rw (each_at k inside) (below k inside)
        go (no outside) =
            let past : length (each f) ≤ k = omega (arith, length-each, outside) in
            rw (get_or-eq_default (each f) 0 past) (omega arith)

    pub sum-each-le : sum (each f) ≤ 16 * bound
    sum-each-le = rw length-each at (sum_bound (each f) bound (λ k lt. each-le k))

-- a closure that makes a number for each operator
pub made-each : {F : Type 0} (g : Mut F (ℕ × Unit {0}) ℕ) (p : F) (f : ℕ → ℕ) (step : (i : ℕ) (y : ℕ) (q : F) → i < 16 → Called g p (i, tt {0}) y q → (y ≡ f i) × (q ≡ p)) (ys : List ℕ)
    → IsFromFnResult g p ys 16 → ys ≡ each f
unfolding each
made-each g p f step ys made = made-table g p f step ys made

-- a list of noughts
pub sum-none : (l : List ℕ) → ((i : ℕ) → i < length l → get_or l i 0 ≡ 0) → sum l ≡ 0
sum-none l none = omega (arith, sum_bound l 0 (λ i lt. omega (arith, none i lt)))

-- a sum above 0 has a place above 0
pub some-place : (l : List ℕ) → 0 < sum l → (i : ℕ) × (i < length l) × (0 < get_or l i 0)
unfolding sum
some-place [] pos = absurd (omega arith)
some-place (x ∷ l) pos = go (dec_lt 0 x) (some-place l)
  where
    go : Dec (0 < x) → (0 < sum l → (i : ℕ) × (i < length l) × (0 < get_or l i 0)) → (i : ℕ) × (i < length (x ∷ l)) × (0 < get_or (x ∷ l) i 0)
    go (yes head) rest = (0, omega arith, head)
    go (no nought) rest =
        let found = rest (omega (arith, nought, pos)) in
        (suc found.0, omega (arith, found.1), found.2)
