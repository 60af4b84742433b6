-- An array that is filled from the front with the elements of a list.
-- Assumes nothing.
use mathlib.Core.Path.{◌≡◌, refl}
use mathlib.Core.List.{List, [], ◌∷◌, map}
use Prim.Native.Nat.{ℕ}
use lib.ListN.{length, replicate}

-- a list of one number only
pub constant : (weights : List ℕ) (v : ℕ) → replicate (length weights) v ≡ map (λ (w : ℕ). v) weights
constant [] v = refl
constant (w ∷ weights) v = rw (constant weights v) refl
