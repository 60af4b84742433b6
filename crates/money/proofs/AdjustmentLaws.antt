-- Adjustments cancel, and none passes its limit.
-- Assumes nothing.
use Prim.Native.Nat.{ℕ, ◌≤◌, ◌<◌}
use mathlib.Core.Path.{◌≡◌, sym, ap, ap₂, ◌∙◌}
use mathlib.Core.List.{List}
use native.Mathlib.Omega.{arith}
use lib.IntN.{pos, sub_ℕ, nat_abs}
use lib.ListN.{get_or}
use Rattle.apportion.specs.Sum.{sum}
use Rattle.book.specs.declared.Book.{Book}
use Rattle.calls.specs.Indicators.{Indicator}
use Rattle.values.proofs.Tables.{table_at}
use Rattle.money.specs.Money.{limits, capped, balanced, adjusted_by, adjustments, sumℤ}
use Rattle.money.proofs.DifferenceLaws.{none_left, difference-most, differences-sum, table_of}
use Rattle.money.proofs.BalanceLaws.{capped-length, capped-most, balanced-length, balanced-sum, balanced-within}

module _ (received paid limit sizes : List ℕ) where
  abbrev bonuses : List ℕ
  bonuses = capped received paid limit

  abbrev maluses : List ℕ
  maluses = capped paid received limit

  -- gains and losses after both sides are balanced
  abbrev gains : List ℕ
  gains = balanced bonuses maluses sizes

  abbrev losses : List ℕ
  losses = balanced maluses bonuses sizes

  adjusted-cancel : sumℤ (adjusted_by received paid limit sizes) ≡ pos 0
  unfolding adjusted_by
  adjusted-cancel =
      let sums : sum gains ≡ sum losses = balanced-sum _ _ _ ∙ omega arith ∙ sym (balanced-sum _ _ _) in
      differences-sum _ _ 16
      ∙ ap₂ (λ (l k : List ℕ). sub_ℕ (sum l) (sum k)) (table_of gains 16 (balanced-length _ _ _ ∙ capped-length _ _ _)) (table_of losses 16 (balanced-length _ _ _ ∙ capped-length _ _ _))
      ∙ ap (λ (n : ℕ). sub_ℕ n (sum losses)) sums
      ∙ none_left (sum losses)

  adjusted-within : (operator : ℕ) → operator < 16 → nat_abs (get_or (adjusted_by received paid limit sizes) operator (pos 0)) ≤ get_or limit operator 0
  unfolding adjusted_by
  adjusted-within operator lt =
      rw (table_at _ 16 operator (pos 0) lt)
      (omega (
        arith,
        difference-most (get_or gains operator 0) (get_or losses operator 0),
        balanced-within bonuses maluses sizes operator (rw capped-length lt),
        balanced-within maluses bonuses sizes operator (rw capped-length lt),
        capped-most received paid limit operator lt,
        capped-most paid received limit operator lt,
      ))

module _ (b : Book) (indicators : List Indicator) where
  pub adjustments_cancel : sumℤ (adjustments b indicators) ≡ pos 0
  unfolding adjustments
  adjustments_cancel = adjusted-cancel _ _ _ _

  pub stays_within_limits : (operator : ℕ) → operator < 16 → nat_abs (get_or (adjustments b indicators) operator (pos 0)) ≤ get_or (limits b) operator 0
  unfolding adjustments
  stays_within_limits = adjusted-within _ _ _ _
