-- Any number below n that passes a test, as a fact about each number.
-- Assumes nothing.
use Prim.Native.Nat.{ℕ, zero, suc, ◌<◌}
use mathlib.Core.Path.{◌≡◌, refl, sym, ◌∙◌}
use mathlib.Core.Bool.{Bool, true, false, ◌||◌, false≢true}
use native.Mathlib.Omega.{arith}
use native.Mathlib.Decide.{ℕ_discrete}
use Rattle.calls.proofs.Flags.{or_right}
use Rattle.values.specs.Operators.{any}

pub or_left : (s t : Bool) → s || t ≡ false → s ≡ false
or_left true t e = e
or_left false t e = refl

-- none does, as each fails
pub none-of-each : (n : ℕ) (test : ℕ → Bool) → ((k : ℕ) → k < n → test k ≡ false) → any n test ≡ false
unfolding any
none-of-each zero test each = refl
none-of-each (suc n) test each = rw (none-of-each n test (λ k lt. each k (omega arith)), each n (omega arith)) refl

pub each-of-none : (n : ℕ) (test : ℕ → Bool) → any n test ≡ false → (k : ℕ) → k < n → test k ≡ false
unfolding any
each-of-none zero test e k lt = absurd (omega arith)
each-of-none (suc n) test e k lt = go (ℕ_discrete k n) (each-of-none n test (or_left _ (test n) e) k)
  where
    go : Dec (k ≡ n) → (k < n → test k ≡ false) → test k ≡ false
    go (yes same) before = rw same (or_right (any n test) _ e)
    go (no other) before = before (omega (arith, other))

-- one that passes is enough
pub any-passes : (n : ℕ) (test : ℕ → Bool) (k : ℕ) → k < n → test k ≡ true → any n test ≡ true
any-passes n test k lt passed = go (any n test) refl
  where
    go : (t : Bool) → any n test ≡ t → any n test ≡ true
    go true some = some
    go false none = absurd (false≢true (sym (each-of-none n test none k lt) ∙ passed))
