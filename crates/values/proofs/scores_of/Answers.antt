-- `values::scores_of` meets its contract: the first two steps in turn are the scores.
-- Assumes nothing.
use mathlib.Core.Path.{◌∙◌}
use Rattle.values.specs.Indicator.{numbered}
use Rattle.values.specs.Sequence.{sums_of_years}
use Rattle.values.proofs.Scores.{years-within, scores-in-turn}
use Rattle.values.proofs.SameMeasures.{values-same}
use Rattle.values.proofs.scores_of.Goals as goal

pub sums_of_years-requires : goal.sums_of_years-requires
sums_of_years-requires c = rw c.yearly_values.ensures (years-within c.args.m.book.now c.args.m.within c.args.number c.requires)

pub returns : goal.returns
returns c =
    λ b measured taking.
    let indicator = numbered c.args.number in
    let values = c.yearly_values.ensures ∙ values-same c.args.m.book.now b measured indicator.measure in
    c.sums_of_years.ensures ∙ (λ i. sums_of_years (taking i) (values i)) ∙ scores-in-turn b indicator
