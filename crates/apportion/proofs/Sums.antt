-- Laws of the sum of a list.
-- Assumes nothing.
use mathlib.Core.Path.{◌≡◌, refl, ap, ◌∙◌}
use mathlib.Core.List.{List, [], ◌∷◌, ◌++◌, map}
use Prim.Native.Nat.{ℕ, zero, suc, ◌+◌, ◌*◌, ◌/◌, ◌%◌, ◌≤◌, ◌<◌}
use native.Mathlib.Nat.{mul-add, div-add-mod', le_of_suc-le-suc, not-suc-le-zero, suc-mul}
use native.Mathlib.Numerals.{add-one}
use native.Mathlib.Omega.{arith}
use lib.ListN.{length, get_or, set, take}
use lib.Seq.{take-suc}
use Rattle.std.specs.List as S
use Rattle.std.proofs.lemmas.List.Sums.{sum_by-cons}
use Rattle.apportion.specs.Sum.{sum}

-- std's sum is the same
pub same_sum : (xs : List ℕ) → S.sum xs ≡ sum xs
unfolding sum
same_sum [] = refl
same_sum (x ∷ xs) = sum_by-cons (λ (n : ℕ). n) x xs ∙ ap (λ (n : ℕ). x + n) (same_sum xs)

pub sum-append : (xs ys : List ℕ) → sum (xs ++ ys) ≡ sum xs + sum ys
unfolding sum
sum-append [] ys = omega arith
sum-append (x ∷ xs) ys = omega (arith, sum-append xs ys)

-- a store moves the sum by what it puts in and takes out
pub sum-set : (l : List ℕ) (i v : ℕ) → i < length l → sum (set l i v) + get_or l i 0 ≡ sum l + v
unfolding sum
sum-set [] i v h = absurd (not-suc-le-zero h)
sum-set (x ∷ l) zero v h = omega arith
sum-set (x ∷ l) (suc i) v h = omega (arith, sum-set l i v (le_of_suc-le-suc h))

-- the sum of one element more
pub sum-take-suc : (l : List ℕ) (i : ℕ) → i < length l → sum (take (i + 1) l) ≡ sum (take i l) + get_or l i 0
unfolding sum
sum-take-suc l i h = rw (add-one, take-suc l i 0 h, sum-append) (omega arith)

-- the sum is at most as many times a bound as there are elements
pub sum_bound : (l : List ℕ) (b : ℕ) → ((i : ℕ) → i < length l → get_or l i 0 ≤ b) → sum l ≤ length l * b
unfolding sum
sum_bound [] b h = omega arith
sum_bound (x ∷ l) b h =
    let head : x ≤ b = h 0 (omega arith) in
    let tail : sum l ≤ length l * b = sum_bound l b (λ i lt. h (suc i) (omega arith)) in
    rw suc-mul (omega arith)

-- an element is at most the sum
pub element-le : (l : List ℕ) (i : ℕ) → get_or l i 0 ≤ sum l
unfolding sum
element-le [] i = omega arith
element-le (x ∷ l) zero = omega arith
element-le (x ∷ l) (suc i) = omega (arith, element-le l i)

-- the first elements add up to at most all
pub take-le : (l : List ℕ) (n : ℕ) → sum (take n l) ≤ sum l
unfolding sum
take-le [] zero = omega arith
take-le [] (suc n) = omega arith
take-le (x ∷ l) zero = omega arith
take-le (x ∷ l) (suc n) = omega (arith, take-le l n)

-- floors and remainders of all products add up to the products
pub divisions : (T s : ℕ) (weights : List ℕ)
    → sum (map (λ (w : ℕ). T * w / s) weights) * s + sum (map (λ (w : ℕ). T * w % s) weights) ≡ T * sum weights
unfolding sum
divisions T s [] = omega arith
divisions T s (w ∷ weights) =
    omega (arith, divisions T s weights, div-add-mod' (T * w) s, mul-add T w (sum weights))

-- what stands at a place of a mapped list
pub map_at : (f : ℕ → ℕ) (l : List ℕ) (i : ℕ) → i < length l → get_or (map f l) i 0 ≡ f (get_or l i 0)
map_at f [] i h = absurd (not-suc-le-zero h)
map_at f (x ∷ l) zero h = refl
map_at f (x ∷ l) (suc i) h = map_at f l i (le_of_suc-le-suc h)
