-- An operator that has not joined has 0 everywhere in a settlement of a book in range.
-- Assumes nothing.
use Prim.Native.Nat.{ℕ, ◌≤◌, ◌<◌}
use mathlib.Core.Path.{◌≡◌, refl, sym, ap, ◌∙◌}
use mathlib.Core.Bool.{Bool, true, false, false≢true}
use mathlib.Core.List.{List}
use native.Mathlib.Nat.{mul-zero, zero-mul, zero-div}
use native.Mathlib.Omega.{arith}
use lib.IntN.{ℤ, pos, negsuc, nat_abs}
use lib.ListN.{get_or}
use Rattle.apportion.specs.Share.{share}
use Rattle.apportion.proofs.Shared.{shared}
use Rattle.calls.specs.Masks.{has}
use Rattle.calls.specs.Limits.{setting_count}
use Rattle.book.specs.declared.Book.{Book}
use Rattle.book.specs.Book.{is_joined, setting_of, most, within_limits}
use Rattle.book.proofs.Bounds.{bounded}
use Rattle.values.specs.Operators.{each}
use Rattle.calls.specs.Indicators.{Indicator}
use Rattle.values.specs.Indicator.{reliable_mask}
use Rattle.indicators.specs.Points.{points}
use Rattle.values.proofs.Tables.{length-each, each_at}
use Rattle.indicators.proofs.PointLaws.{reliable-joined, points_none}
use Rattle.money.specs.Money.{pot, contributions, returns, limits, adjustments}
use Rattle.money.proofs.AdjustmentLaws.{stays_within_limits}

-- a share by a weight of 0
none-shared : (T : ℕ) (f : ℕ → ℕ) (sizes : List ℕ) (k : ℕ) → k < 16 → f k ≡ 0 → get_or (share T (each f) sizes) k 0 ≡ 0
none-shared T f sizes k lt none = (shared T (each f) sizes).none k (rw length-each lt) (each_at f k lt ∙ none)

-- a number without size
no_size : (z : ℤ) → nat_abs z ≤ 0 → z ≡ pos 0
no_size (pos n) none = ap pos (omega arith)
no_size (negsuc n) none = absurd (omega arith)

module _ (b : Book) (ranged : within_limits b ≡ true) (operator : ℕ) (lt : operator < 16) (apart : is_joined b operator ≡ false) where
  setting-none : (which : ℕ) → which < setting_count → setting_of b operator which ≡ 0
  unfolding most setting_of is_joined
  setting-none which small =
      let none : setting_of b operator which ≤ 0 = rw apart at ((bounded b ranged).settings.within operator which lt small) in
      omega (arith, none)

  pub points-unjoined : (indicator : Indicator) → get_or (points b indicator) operator 0 ≡ 0
  points-unjoined indicator = points_none b indicator operator lt (go (has (reliable_mask b indicator) operator) refl)
    where
      go : (t : Bool) → has (reliable_mask b indicator) operator ≡ t → has (reliable_mask b indicator) operator ≡ false
      go true reliable = absurd (false≢true (sym apart ∙ reliable-joined b indicator operator reliable))
      go false marked = marked

  pub contribution-none : get_or (contributions b) operator 0 ≡ 0
  unfolding contributions
  contribution-none = none-shared (pot b) _ _ operator lt (setting-none 1 (omega arith))

  pub limit-none : get_or (limits b) operator 0 ≡ 0
  unfolding limits
  limit-none = each_at _ operator lt ∙ rw (setting-none 2 (omega arith), mul-zero) (zero-div 1000000)

  module _ (indicators : List Indicator) where
    pub return-none : get_or (returns b indicators) operator 0 ≡ 0
    unfolding returns
    return-none = none-shared (pot b) _ _ operator lt (rw (setting-none 1 (omega arith)) (zero-mul _))

    pub adjustment-none : get_or (adjustments b indicators) operator (pos 0) ≡ pos 0
    adjustment-none = no_size _ (omega (arith, stays_within_limits b indicators operator lt, limit-none))
