-- An array made from its indices by a closure that leaves its captures as they were: what stands at each place.
-- Assumes nothing.
use Prim.Native.Nat.{ℕ, zero, suc, ◌+◌, ◌≤◌, ◌<◌}
use mathlib.Core.Path.{◌≡◌, refl, ◌∙◌}
use mathlib.Core.List.{List}
use native.Mathlib.Omega.{arith}
use native.Mathlib.Decide.{ℕ_discrete}
use lib.ListN.{get_or}
use denote.Param.Members.{Mut, Called}
use Rattle.std.specs.Iterator.{CallableAtEachTurn}
use Rattle.std.proofs.lemmas.Fn.{serves_by}
use Rattle.std.specs.Array.{index_steps, IsFromFnResult, IsFromFnResultFrom}

module _ {F B : Type 0} (g : Mut F (ℕ × Unit {0}) B) (f : F) (n : ℕ) (made : ℕ → B)
    (step : (i : ℕ) (y : B) (q : F) → i < n → Called g f (i, tt {0}) y q → (y ≡ made i) × (q ≡ f)) where
  from-place : (ys : List B) (d : B) (i left : ℕ) → i + left ≡ n → (p : F) → p ≡ f → IsFromFnResultFrom g p ys i left → (k : ℕ) → i ≤ k → k < n → get_or ys k d ≡ made k
  from-place ys d i zero all p same run k low high = absurd (omega arith)
  from-place ys d i (suc left) all p same (q, y, here, call, rest) k low high =
      let gave : (y ≡ made i) × (q ≡ f) = step i y q (omega arith) (rw same at call) in
      go gave (ℕ_discrete k i) (from-place ys d (i + 1) left (omega arith) q gave.1 rest k)
    where
      go : (y ≡ made i) × (q ≡ f) → Dec (k ≡ i) → (i + 1 ≤ k → k < n → get_or ys k d ≡ made k) → get_or ys k d ≡ made k
      go gave (yes first) later = rw first (here.1 d ∙ gave.0)
      go gave (no other) later = later (omega (arith, other)) high

  -- what the closure makes of each index stands there
  pub made_at : (ys : List B) → IsFromFnResult g f ys n → (d : B) (k : ℕ) → k < n → get_or ys k d ≡ made k
  made_at ys run d k lt = from-place ys d 0 n (omega arith) f refl run.each k (omega arith) lt

-- such a closure may be called at each index in turn, if as it is it may be called at any
pub callable-each : {F B : Type 0} (g : Mut F (ℕ × Unit {0}) B) (f : F) (n : ℕ) (Takes : F → ℕ → Type 0) → ((i : ℕ) (y : B) (q : F) → Called g f (i, tt {0}) y q → q ≡ f)
    → ((i : ℕ) → i < n → Takes f i) → CallableAtEachTurn (index_steps n) (λ p x q. (y : B) × Called g p (x, tt {0}) y q) Takes 0 f
callable-each {F} {B} g f n Takes same may =
    serves_by (λ p x q. (y : B) × Called g p (x, tt {0}) y q) (λ _ q. q ≡ f) (λ xs q x v is call. same x call.0 v (rw is at call.1))
    (index_steps n) Takes 0 f refl (λ xs t q x u so_far turn is. rw (is, turn.1) (may t turn.0))
