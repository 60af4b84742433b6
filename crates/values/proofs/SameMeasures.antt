-- Books with the same measures have the same yearly values, whoever has joined or is marked in them.
-- Assumes nothing.
use Prim.Native.Nat.{ℕ}
use mathlib.Core.Path.{◌≡◌, refl}
use Rattle.calls.specs.Indicators.{Measure, frequency, duration, fee}
use Rattle.book.specs.declared.Book.{Book}
use Rattle.book.specs.Book.{setting_of, figure_of, index_of}
use Rattle.calls.specs.Limits.{years}
use Rattle.values.specs.Operators.{table, each}
use Rattle.values.specs.Indicator.{fee_divisor, yearly_value}
use Rattle.values.specs.Parts.{HasMarks, HasMeasures}
use Rattle.values.specs.Sequence.{values_by_year}

-- a book has its own
pub own-marks : (b : Book) → HasMarks b b.joined b.marks
own-marks b = record { joined_are = refl; marks_are = refl }

pub own-measures : (b : Book) → HasMeasures b b.settings b.figures b.indices
own-measures b = record { settings_are = refl; figures_are = refl; indices_are = refl }

module _ (lent b : Book) (measured : HasMeasures b lent.settings lent.figures lent.indices) where
  value-same : (measure : Measure) (operator year : ℕ) → yearly_value lent measure operator year ≡ yearly_value b measure operator year
  unfolding yearly_value fee_divisor setting_of figure_of index_of
  value-same (frequency figure which) operator year = rw (measured.settings_are, measured.figures_are) refl
  value-same (duration seconds weight) operator year = rw measured.figures_are refl
  value-same (fee fees connections) operator year = rw (measured.figures_are, measured.indices_are) refl

  pub values-same : (measure : Measure) → values_by_year lent measure ≡ values_by_year b measure
  unfolding values_by_year
  values-same measure = λ i. table years (λ (year : ℕ). each (λ (operator : ℕ). value-same measure operator year i))
