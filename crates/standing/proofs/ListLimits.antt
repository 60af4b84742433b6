-- Lists of the operators' settings, figures and counts of a year, where each one of them is within its limit.
-- Assumes nothing.
use Prim.Native.Nat.{ℕ, ◌≤◌, ◌<◌}
use mathlib.Core.List.{List}
use native.Mathlib.Nat.{le_trans}
use native.Mathlib.Omega.{arith}
use lib.ListN.{get_or}
use Rattle.calls.specs.Limits.{operators, years, setting_count, figure_count, setting_limit, figure_limit}
use Rattle.calls.proofs.SettingLaws.{limit-most}
use Rattle.book.specs.declared.Book.{Book}
use Rattle.book.specs.Book.{setting_of, figure_of}
use Rattle.values.specs.Bounds.{income_limit}
use Rattle.values.specs.Indicator.{count_or_one}
use Rattle.values.specs.Operators.{each, settings_of, figures_of}
use Rattle.values.proofs.FeeLaws.{larger-of-one}
use Rattle.values.proofs.Tables.{each-le}

-- no setting passes the largest limit
module _ (b : Book) (small : (operator which : ℕ) → operator < operators → which < setting_count → setting_of b operator which ≤ setting_limit which) where
  pub settings-most : (which : ℕ) → which < setting_count → (k : ℕ) → get_or (settings_of b which) k 0 ≤ income_limit
  settings-most which lw = each-le _ _ (λ k lt. le_trans (small k which lt lw) (limit-most which))

-- counts of connections, of which 0 is taken as 1
abbrev pub counts_or_one : List ℕ → List ℕ
counts_or_one counts = each (λ (k : ℕ). count_or_one (get_or counts k 0))

module _ (b : Book) (small : (operator year figure : ℕ) → operator < operators → year < years → figure < figure_count → figure_of b operator year figure ≤ figure_limit) where
  pub figures-most : (year figure : ℕ) → year < years → figure < figure_count → (k : ℕ) → get_or (figures_of b year figure) k 0 ≤ figure_limit
  figures-most year figure ly lf = each-le _ _ (λ k lt. small k year figure lt ly lf)

  -- counts of a year, so taken, keep to the limit of a figure
  pub counts-most : (year figure : ℕ) → year < years → figure < figure_count → (k : ℕ) → get_or (counts_or_one (figures_of b year figure)) k 0 ≤ figure_limit
  counts-most year figure ly lf =
      each-le _ _
      (λ k lt. rw (← larger-of-one (get_or (figures_of b year figure) k 0)) (omega (arith, figures-most year figure ly lf k)))
