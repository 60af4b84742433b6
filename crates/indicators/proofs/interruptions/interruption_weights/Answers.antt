-- `indicators::interruptions::interruption_weights` meets its contract: each step's result is the defined one of the results before it.
-- Assumes nothing.
use mathlib.Core.Path.{◌∙◌, ap}
use Rattle.values.specs.Indicator.{numbered}
use Rattle.values.specs.Sequence.{sums_of_years}
use Rattle.values.specs.Steps.{YearsWithin}
use Rattle.values.proofs.Scores.{sums_within, years-within}
use Rattle.values.proofs.SameMeasures.{values-same}
use Rattle.indicators.specs.Steps.{ScoresWithin}
use Rattle.indicators.specs.Sequence.{thousandths, exponent_weights, levelled_weights, in_sequence}
use Rattle.indicators.proofs.SequenceLaws.{thousandths-most, own_most}
use Rattle.indicators.proofs.interruptions.interruption_weights.Goals as goal
use Rattle.indicators.proofs.interruptions.interruption_weights.Goals.{After-yearly_values-values, After-sums_of_years-sums}

-- what the results of the first two steps are within
years-known : (m : After-yearly_values-values) → YearsWithin m.yearly_values-values.result
years-known m = rw m.yearly_values-values.ensures (years-within m.args.m.book.now m.args.m.within m.args.number m.requires)

sums-known : (m : After-sums_of_years-sums) → ScoresWithin m.sums_of_years-sums.result
sums-known m = rw m.sums_of_years-sums.ensures (sums_within _ _ (years-known m.before))

pub returns : goal.returns
unfolding in_sequence
returns c =
    λ b measured taking.
    let values = c.yearly_values-values.ensures ∙ values-same c.args.m.book.now b measured (numbered c.args.number).measure in
    let sums = c.sums_of_years-sums.ensures ∙ (λ i. sums_of_years (taking i) (values i)) in
    let ks = c.thousandths_of-thousandths.ensures ∙ ap thousandths sums in
    let own = c.exponent_weights-weights.ensures ∙ ap exponent_weights ks in
    c.level.ensures ∙ (λ i. levelled_weights (taking i) (sums i) (own i))

pub sums_of_years-sums-requires : goal.sums_of_years-sums-requires
sums_of_years-sums-requires c = years-known (goal.at.sums_of_years-sums-requires c).After-yearly_values-values

pub thousandths_of-thousandths-requires : goal.thousandths_of-thousandths-requires
thousandths_of-thousandths-requires c = sums-known (goal.at.thousandths_of-thousandths-requires c).After-sums_of_years-sums

pub exponent_weights-weights-requires : goal.exponent_weights-weights-requires
exponent_weights-weights-requires c = rw c.thousandths_of-thousandths.ensures (thousandths-most _)

pub level-requires : goal.level-requires
level-requires c =
    record { sums_within = sums-known (goal.at.level-requires c).After-sums_of_years-sums; own_most = rw c.exponent_weights-weights.ensures (own_most _) }
