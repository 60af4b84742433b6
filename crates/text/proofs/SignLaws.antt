-- A signed number as its bits read again, its size, and its sign in front.
-- Assumes nothing.
use Prim.Native.Nat.{ℕ}
use mathlib.Core.Path.{◌≡◌, refl, ap, ◌∙◌}
use mathlib.Core.Bool.{true, false, true≢false}
use mathlib.Core.List.{[], ◌∷◌, ◌++◌}
use native.Mathlib.Omega.{arith}
use lib.IntN.{ℤ, pos, negsuc, nat_abs}
use lib.Signed.{lt_z}
use mir.Syntax.{w64}
use mir.Val.{SFits, to_z, of_z}
use mir.Facts.{to_z-of_z}
use borrow.Author.Tests.{ltb-true}
use Rattle.text.specs.Text.{bytes_of, decimal, signed_decimal}

negative-text : (z : ℤ) → lt_z z (pos 0) ≡ true → signed_decimal z ≡ (45 ∷ []) ++ decimal (nat_abs z)
unfolding signed_decimal bytes_of
negative-text (pos n) below = absurd (omega (arith, ltb-true n 0 below))
negative-text (negsuc n) below = refl

others-text : (z : ℤ) → lt_z z (pos 0) ≡ false → signed_decimal z ≡ decimal (nat_abs z)
unfolding signed_decimal
others-text (pos n) above = refl
others-text (negsuc n) above = absurd (true≢false above)

-- a number is its bits, read again
module _ (z : ℤ) (fits : SFits w64 z) where
  pub again : to_z w64 (of_z w64 z) ≡ z
  again = to_z-of_z fits

  pub size-again : {size : ℕ} → size ≡ nat_abs (to_z w64 (of_z w64 z)) → size ≡ nat_abs z
  size-again e = e ∙ ap nat_abs again

  pub signed-negative : lt_z (to_z w64 (of_z w64 z)) (pos 0) ≡ true → signed_decimal z ≡ (45 ∷ []) ++ decimal (nat_abs z)
  signed-negative below = negative-text z (rw again at below)

  pub signed-other : lt_z (to_z w64 (of_z w64 z)) (pos 0) ≡ false → signed_decimal z ≡ decimal (nat_abs z)
  signed-other above = others-text z (rw again at above)
