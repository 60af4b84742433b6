-- Settling reads figures 0 to 7 only: two books that differ in the counts alone settle the same (specs/Demand3.antt, `counts_aside`).
-- Assumes nothing.
use Prim.Native.Nat.{ℕ, zero, suc, ◌+◌, ◌*◌, ◌<◌}
use mathlib.Core.Path.{◌≡◌, refl, ap, ap₂, ◌∙◌}
use mathlib.Core.Bool.{Bool, true, false, cond}
use mathlib.Core.List.{List, [], ◌∷◌, ◌++◌}
use native.Mathlib.Omega.{arith}
use lib.Dec.{eqb}
use lib.ListN.{get_or}
use Rattle.calls.specs.Limits.{operators, years, indicator_count, first_count}
use Rattle.calls.specs.Masks.{has}
use Rattle.calls.specs.Answers.{on_answer, first_of}
use Rattle.book.specs.declared.Book.{Book}
use Rattle.book.specs.Book.{with_figures, is_joined, is_marked, setting_of, figure_of, index_of, in_range}
use Rattle.calls.specs.Indicators.{Measure, frequency, duration, fee, Indicator, electricity, takes_mark}
use Rattle.values.specs.Indicator.{numbered_in, fee_divisor, yearly_value, three_years, reliable_mask, scores, pool}
use Rattle.values.specs.Operators.{sizes_of}
use Rattle.values.proofs.Tables.{each_same}
use Rattle.apportion.specs.Share.{share}
use Rattle.indicators.specs.Points.{points, all_points, pool_numbered, points_numbered, pools_of_all, rows, points_of_all}
use Rattle.money.specs.Money.{pot, contributions, returns, limits, adjustments}
use Rattle.readiness.specs.Readiness.{setting_missing, network_missing, is_marked_at_all, all_marked}
use Rattle.settlement.specs.Settlement.{settlement_by, settling_lines, settled_by, settled}
use Rattle.guarantees.specs.Demand3.{SameMeasures}

-- what an indicator measures stands below the counts
abbrev Measured : Measure → Type 0
Measured (frequency figure which) = figure < first_count
Measured (duration seconds weight) = (seconds < first_count) × (weight < first_count)
Measured (fee fees connections) = (fees < first_count) × (connections < first_count)

abbrev AllMeasured : List Indicator → Type 0
AllMeasured [] = Unit {0}
AllMeasured (indicator ∷ rest) = Measured indicator.measure × AllMeasured rest

electricity-measured : AllMeasured electricity
unfolding electricity
electricity-measured = (omega arith, ((omega arith, omega arith), (omega arith, ((omega arith, omega arith), ((omega arith, omega arith), ((omega arith, omega arith), tt))))))

module _ (b : Book) (figures : List ℕ) (same : SameMeasures b (with_figures b figures)) where
  abbrev c : Book
  c = with_figures b figures

  value_same : (measure : Measure) → Measured measure → (operator year : ℕ) → operator < operators → year < years
      → yearly_value c measure operator year ≡ yearly_value b measure operator year
  unfolding yearly_value fee_divisor setting_of index_of
  value_same (frequency figure which) below operator year lo ly = rw (same operator year figure lo ly below) refl
  value_same (duration seconds weight) below operator year lo ly = rw (same operator year seconds lo ly below.0, same operator year weight lo ly below.1) refl
  value_same (fee fees connections) below operator year lo ly = rw (same operator year fees lo ly below.0, same operator year connections lo ly below.1) refl

  three-same : (measure : Measure) → Measured measure → (operator : ℕ) → operator < operators → three_years c measure operator ≡ three_years b measure operator
  unfolding three_years
  three-same measure below operator lo =
      ap₂ ◌+◌ (ap₂ ◌+◌ (value_same measure below operator 0 lo (omega arith)) (value_same measure below operator 1 lo (omega arith))) (value_same measure below operator 2 lo (omega arith))

  scores-same : (indicator : Indicator) → Measured indicator.measure → scores c indicator ≡ scores b indicator
  unfolding scores reliable_mask
  scores-same indicator below =
      each_same _ _ (λ operator lo. ap (λ (n : ℕ). cond (has (reliable_mask b indicator) operator) n 0) (three-same indicator.measure below operator lo))

  points-same : (indicator : Indicator) → Measured indicator.measure → points c indicator ≡ points b indicator
  unfolding points pool reliable_mask setting_of
  points-same indicator below = rw (scores-same indicator below) refl

  all_same : (indicators : List Indicator) → AllMeasured indicators → (operator : ℕ) → all_points c indicators operator ≡ all_points b indicators operator
  unfolding all_points
  all_same [] below operator = refl
  all_same (indicator ∷ rest) below operator =
      ap₂ ◌+◌ (ap (λ (list : List ℕ). get_or list operator 0) (points-same indicator below.0)) (all_same rest below.1 operator)

  -- the indicator of a number is measured below the counts: the list's, or fees
  measured-in : (indicators : List Indicator) → AllMeasured indicators → (number : ℕ) → Measured (numbered_in indicators number).measure
  unfolding numbered_in
  measured-in [] below number = (omega arith, omega arith)
  measured-in (indicator ∷ rest) below number = go (eqb indicator.number number) (measured-in rest below.1 number)
    where
      go : (t : Bool) → Measured (numbered_in rest number).measure → Measured (cond t indicator (numbered_in rest number)).measure
      go true later = below.0
      go false later = later

  numbered-same : (indicators : List Indicator) → AllMeasured indicators → (number : ℕ) → points_numbered c indicators number ≡ points_numbered b indicators number
  unfolding points_numbered
  numbered-same indicators below number = rw (points-same (numbered_in indicators number) (measured-in indicators below number)) refl

  rows_same : (indicators : List Indicator) → AllMeasured indicators → (n : ℕ) → rows n (points_numbered c indicators) ≡ rows n (points_numbered b indicators)
  unfolding rows
  rows_same indicators below zero = refl
  rows_same indicators below (suc n) = ap₂ ◌++◌ (rows_same indicators below n) (numbered-same indicators below n)

  lists-same : (indicators : List Indicator) → AllMeasured indicators → points_of_all c indicators ≡ points_of_all b indicators
  unfolding points_of_all
  lists-same indicators below = rows_same indicators below indicator_count

  module _ (indicators : List Indicator) (below : AllMeasured indicators) where
    returns-same : returns c indicators ≡ returns b indicators
    unfolding returns pot setting_of
    returns-same = ap (λ (weights : List ℕ). share (pot b) weights (sizes_of b)) (each_same _ _ (λ operator lo. ap (λ (n : ℕ). setting_of b operator 1 * n) (all_same indicators below operator)))

    settlement-same : settlement_by c indicators ≡ settlement_by b indicators
    unfolding settlement_by pools_of_all pool_numbered pool reliable_mask pot contributions limits adjustments setting_of
    settlement-same = rw (lists-same indicators below, returns-same) refl

  -- who has joined, marks and settings are another part of the book
  lines_same : in_range electricity c ≡ in_range electricity b → settling_lines c electricity ≡ settling_lines b electricity
  unfolding settling_lines setting_missing network_missing all_marked is_marked_at_all is_joined is_marked setting_of electricity
  lines_same ranged = rw ranged refl

  pub settled_same : in_range electricity c ≡ in_range electricity b → settled c ≡ settled b
  unfolding settled_by
  settled_same ranged = rw (lines_same ranged, settlement-same electricity electricity-measured) refl
