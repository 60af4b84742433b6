-- An array mapped by a closure that leaves its captures as they were.
-- Assumes nothing.
use Prim.Native.Nat.{ℕ, zero, suc, ◌+◌, ◌≤◌, ◌<◌}
use mathlib.Core.Path.{◌≡◌, refl, sym, ◌∙◌}
use mathlib.Core.List.{List, map}
use native.Mathlib.Omega.{arith}
use native.Mathlib.Decide.{ℕ_discrete}
use lib.ListN.{length, get_or, length-map}
use denote.Param.Members.{Mut, Called}
use Rattle.std.specs.Array.{IsMapOf, MapsFrom}
use Rattle.std.proofs.lemmas.List.{ext_get_or, get_or-map}

module _ {F A B : Type 0} (g : Mut F (A × Unit {0}) B) (f : F) (made : A → B)
    (step : (x : A) (y : B) (q : F) → Called g f (x, tt {0}) y q → (y ≡ made x) × (q ≡ f)) (xs : List A) (n : ℕ) where
  from-place : (ys : List B) (d : A) (e : B) (i left : ℕ) → i + left ≡ n → (p : F) → p ≡ f → MapsFrom g p xs ys i left
      → (k : ℕ) → i ≤ k → k < n → get_or ys k e ≡ made (get_or xs k d)
  from-place ys d e i zero all p same run k low high = absurd (omega arith)
  from-place ys d e i (suc left) all p same (q, x, y, from, here, call, rest) k low high =
      let gave : (y ≡ made x) × (q ≡ f) = step x y q (rw same at call) in
      go gave (ℕ_discrete k i) (from-place ys d e (i + 1) left (omega arith) q gave.1 rest k)
    where
      go : (y ≡ made x) × (q ≡ f) → Dec (k ≡ i) → (i + 1 ≤ k → k < n → get_or ys k e ≡ made (get_or xs k d)) → get_or ys k e ≡ made (get_or xs k d)
      go gave (yes first) later = rw (first, from.1 d) (here.1 e ∙ gave.0)
      go gave (no other) later = later (omega (arith, other)) high

  pub mapped : (ys : List B) (d : A) → IsMapOf g f xs ys n → length xs ≡ n → ys ≡ map made xs
  mapped ys d run long =
      ext_get_or (made d) ys (map made xs) (run.long ∙ sym long ∙ sym (length-map xs made))
      (λ k lt. from-place ys d (made d) 0 n (omega arith) f refl run.each k (omega arith) (omega (arith, run.long)) ∙ sym (get_or-map made xs k d (made d) (omega (arith, run.long))))
