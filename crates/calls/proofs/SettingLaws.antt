-- The settings of an operator: their limits, and those that have the cabins.
-- Assumes nothing.
use Prim.Native.Nat.{ℕ, zero, suc, ◌≤◌}
use mathlib.Core.Path.{◌≡◌, refl}
use native.Mathlib.Omega.{arith}
use Rattle.calls.specs.Limits.{setting_limit, cabins_in}

-- a setting other than access points and income has the limit of cabins
pub cabin-limit : (which : ℕ) → (which ≡ 1 → ⊥) → (which ≡ 2 → ⊥) → setting_limit which ≡ setting_limit 0
cabin-limit zero not-one not-two = refl
cabin-limit (suc zero) not-one not-two = absurd (not-one refl)
cabin-limit (suc (suc zero)) not-one not-two = absurd (not-two refl)
cabin-limit (suc (suc (suc which))) not-one not-two = refl

-- none has a limit above the income's
pub limit-most : (which : ℕ) → setting_limit which ≤ setting_limit 2
limit-most zero = omega arith
limit-most (suc zero) = omega arith
limit-most (suc (suc zero)) = omega arith
limit-most (suc (suc (suc which))) = omega arith

-- a year other than the first two has the last cabins
pub last-cabins : (year : ℕ) → (year ≡ 0 → ⊥) → (year ≡ 1 → ⊥) → cabins_in year ≡ 4
last-cabins zero not-zero not-one = absurd (not-zero refl)
last-cabins (suc zero) not-zero not-one = absurd (not-one refl)
last-cabins (suc (suc later)) not-zero not-one = refl
