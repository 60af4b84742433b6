-- The difference of two whole numbers, as it is stored in a signed number.
-- Assumes nothing.
use Prim.Native.Nat.{ℕ, suc, ◌-◌, ◌^◌, ◌≤◌, ◌<◌}
use mathlib.Core.Path.{◌≡◌, refl}
use native.Mathlib.Omega.{arith}
use native.Mathlib.Decide.{dec_lt}
use lib.IntN.{ℤ, pos, negsuc, sub_ℕ}
use borrow.Author.Tests.{lt-ltb, le-ltb}
use mir.Syntax.{w64}
use mir.Val.{SFits, to_z, of_z}
use mir.Facts.{to_z-of_z}

module _ (gain loss : ℕ) where
  no_less : loss ≤ gain → sub_ℕ gain loss ≡ pos (gain - loss)
  no_less le = rw (le-ltb gain loss le) refl

  less : gain < loss → sub_ℕ gain loss ≡ negsuc (loss - suc gain)
  less lt = rw (lt-ltb gain loss lt) refl

  module _ (gain-small : gain < 2 ^ 62) (loss-small : loss < 2 ^ 62) where
    subℕ-fits : SFits w64 (sub_ℕ gain loss)
    subℕ-fits = go (dec_lt gain loss)
      where
        go : Dec (gain < loss) → SFits w64 (sub_ℕ gain loss)
        go (yes lt) = rw (less lt) (record { sfits = omega arith })
        go (no other) = rw (no_less (omega (arith, other))) (record { sfits = omega arith })

    -- what is stored is what was computed
    pub stored : (z : ℤ) → z ≡ sub_ℕ gain loss → to_z w64 (of_z w64 z) ≡ sub_ℕ gain loss
    stored z e = rw e (to_z-of_z subℕ-fits)
