-- Yearly values as quotients of columns.
-- Assumes nothing.
use Prim.Native.Nat.{ℕ, ◌*◌}
use mathlib.Core.Path.{◌≡◌, ap₂, ◌∙◌}
use mathlib.Core.List.{List}
use native.Mathlib.Nat.{one-mul}
use native.Mathlib.Omega.{arith}
use lib.ListN.{get_or}
use Rattle.exact.specs.Division.{over}
use Rattle.book.specs.declared.Book.{Book}
use Rattle.book.specs.Book.{setting_of, figure_of}
use Rattle.calls.specs.Indicators.{frequency, duration}
use Rattle.values.specs.Operators.{each, settings_of, figures_of}
use Rattle.values.specs.Indicator.{yearly_value, yearly_values}
use Rattle.values.proofs.Tables.{each_at, each_same}

-- quotients operator by operator, dividends and divisors each multiplied first
abbrev pub quotients_by : ℕ → List ℕ → ℕ → List ℕ → List ℕ
quotients_by factor dividends scale divisors = each (λ (k : ℕ). over (factor * get_or dividends k 0) (scale * get_or divisors k 0))

module _ (b : Book) (year : ℕ) where
  pub frequencies-same : (figure : ℕ) (which : ℕ → ℕ) → quotients_by 1000000 (figures_of b year figure) 1 (settings_of b (which year)) ≡ yearly_values b (frequency figure which) year
  unfolding yearly_value
  frequencies-same figure which =
      each_same _ _ (λ k lt. ap₂ over (omega (arith, each_at (λ (o : ℕ). figure_of b o year figure) k lt)) (omega (arith, each_at (λ (o : ℕ). setting_of b o (which year)) k lt)))

  pub durations-same : (seconds weight : ℕ) → quotients_by 1000 (figures_of b year seconds) 1 (figures_of b year weight) ≡ yearly_values b (duration seconds weight) year
  unfolding yearly_value
  durations-same seconds weight =
      each_same _ _ (λ k lt. ap₂ over (omega (arith, each_at (λ (o : ℕ). figure_of b o year seconds) k lt)) (one-mul _ ∙ each_at (λ (o : ℕ). figure_of b o year weight) k lt))
