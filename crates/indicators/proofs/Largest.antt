-- The largest of a list.
-- Assumes nothing.
use mathlib.Core.Path.{◌≡◌}
use mathlib.Core.List.{List, [], ◌∷◌, ◌++◌}
use Prim.Native.Nat.{ℕ, zero, suc, max, ◌≤◌}
use native.Mathlib.Omega.{arith}
use lib.ListN.{get_or}
use Rattle.indicators.specs.Points.{largest}

pub largest-ge : (list : List ℕ) (k : ℕ) → get_or list k 0 ≤ largest list
unfolding largest
largest-ge [] k = omega arith
largest-ge (x ∷ list) zero = omega arith
largest-ge (x ∷ list) (suc k) = omega (arith, largest-ge list k)

pub largest-le : (list : List ℕ) (bound : ℕ) → ((k : ℕ) → get_or list k 0 ≤ bound) → largest list ≤ bound
unfolding largest
largest-le [] bound each = omega arith
largest-le (x ∷ list) bound each = omega (arith, each 0, largest-le list bound (λ k. each (suc k)))

-- one number more at the end
pub largest-push : (list : List ℕ) (x : ℕ) → largest (list ++ (x ∷ [])) ≡ max (largest list) x
unfolding largest
largest-push [] x = omega arith
largest-push (y ∷ list) x = omega (arith, largest-push list x)
