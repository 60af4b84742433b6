-- The indicators, and what the books of a kind of operators take: a kind is the list of its indicators (01, "Indicators"; annex 9, table 3;
-- 02, point 4).
-- Assumes nothing.
use Rattle.std.specs.Prelude.{ℕ, Bool, true, false, ◌&&◌, ◌||◌, List, [], ◌∷◌, eqb, leb}
use Rattle.calls.specs.declared.Kind.{Kind}
use Rattle.calls.specs.declared.Kind.TheVariants.{Electricity, Gas}
use Rattle.calls.specs.Limits.{first_count, cabins_in}

-- what is measured, by figures and settings
pub data Measure : Type 0 where
  -- interruptions (a figure) per piece of network (a setting, by year): A1, A3
  frequency : ℕ → (ℕ → ℕ) → Measure
  -- seconds (a figure) per interruption (a figure): A2, A4
  duration : ℕ → ℕ → Measure
  -- fees (a figure) per connection (a figure), in the money of June 2013: D1, D2
  fee : ℕ → ℕ → Measure

pub record Indicator : Type 0 where
  -- its number, by which it is marked
  pub number : ℕ
  -- points per year
  pub points : ℕ
  pub measure : Measure

abbrev pub indicator : ℕ → ℕ → Measure → Indicator
indicator number points measure = record { number = number; points = points; measure = measure }

-- "A1 154, A2 126, A3 66, A4 54, D1 20, D2 5; indicators 0 to 5"; "A1 divides by the year's own" cabins (02, point 3), A3 by the access
-- points, which are the same for all years
unfoldable pub electricity : List Indicator
electricity =
    indicator 0 154 (frequency 0 cabins_in) ∷ indicator 1 126 (duration 1 0) ∷ indicator 2 66 (frequency 2 (λ (year : ℕ). 1))
    ∷ indicator 3 54 (duration 3 2) ∷ indicator 4 20 (fee 4 5) ∷ indicator 5 5 (fee 6 7) ∷ []

-- "The gas side settles on D1 and D2 only, 25 points a year" (02, point 4)
unfoldable pub gas : List Indicator
gas = indicator 4 20 (fee 4 5) ∷ indicator 5 5 (fee 6 7) ∷ []

-- the indicators of the code's kind
abbrev pub indicators_of : Kind → List Indicator
indicators_of Electricity = electricity
indicators_of Gas = gas

-- whether a test holds of some element
unfoldable pub some : {A : Type 0} → (A → Bool) → List A → Bool
some test [] = false
some test (x ∷ rest) = test x || some test rest

-- what a measure is made of: figures, the settings of the three years, and whether it is one of interruptions
abbrev pub figures_in : Measure → List ℕ
figures_in (frequency figure which) = figure ∷ []
figures_in (duration seconds weight) = seconds ∷ weight ∷ []
figures_in (fee fees connections) = fees ∷ connections ∷ []

abbrev pub settings_in : Measure → List ℕ
settings_in (frequency figure which) = which 0 ∷ which 1 ∷ which 2 ∷ []
settings_in (duration seconds weight) = []
settings_in (fee fees connections) = []

abbrev pub of_interruptions : Measure → Bool
of_interruptions (frequency figure which) = true
of_interruptions (duration seconds weight) = true
of_interruptions (fee fees connections) = false

-- figures 0 to 3, and the counts from 8 on: those that interruptions enter
unfoldable pub is_of_interruptions : ℕ → Bool
is_of_interruptions figure = leb figure 3 || leb first_count figure

-- what a book of a kind takes: an interruption, if one of the indicators is measured by them; the marks of the indicators; the figures that
-- they measure, and with interruptions all that these enter; access points, the settings that they divide by, and income
module _ (kind : List Indicator) where
  unfoldable pub takes_interruptions : Bool
  takes_interruptions = some (λ (i : Indicator). of_interruptions i.measure) kind

  unfoldable pub takes_mark : ℕ → Bool
  takes_mark number = some (λ (i : Indicator). eqb number i.number) kind

  unfoldable pub takes_figure : ℕ → Bool
  takes_figure figure = (takes_interruptions && is_of_interruptions figure) || some (λ (i : Indicator). some (eqb figure) (figures_in i.measure)) kind

  -- the settings that refusal 11 looks at: access points, and those that an indicator divides by
  unfoldable pub is_network : ℕ → Bool
  is_network which = eqb which 1 || some (λ (i : Indicator). some (eqb which) (settings_in i.measure)) kind

  unfoldable pub takes_setting : ℕ → Bool
  takes_setting which = is_network which || eqb which 2
