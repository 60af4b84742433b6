-- `indicators::pools::weights_of` meets its contract.
-- Assumes nothing.
use mathlib.Core.Path.{◌∙◌}
use borrow.Author.Tests.{lt-ltb, le-ltb}
use Rattle.values.specs.Indicator.{numbered}
use Rattle.values.proofs.Scores.{scored}
use Rattle.values.proofs.SameMeasures.{own-measures}
use Rattle.indicators.specs.Points.{weights}
use Rattle.indicators.proofs.Weighting.{level-of}
use Rattle.indicators.proofs.SequenceLaws.{sequence-weights}
use Rattle.indicators.proofs.pools.weights_of.Goals as goal

-- A
pub returns-then-number-lt4 : goal.returns-then-number-lt4
returns-then-number-lt4 c =
    let number = c.args.number in
    let b = c.args.m.book.now in
    c.interruption_weights.ensures b (own-measures b) c.reliable_mask-mask.ensures
    ∙ sequence-weights b (numbered number) (level-of number c.requires ∙ lt-ltb number 4 c.if-number-lt4.true)

pub linear_weights-requires : goal.linear_weights-requires
linear_weights-requires c =
    let b = c.args.m.book.now in
    rw (c.scores_of-scores.ensures b (own-measures b) c.reliable_mask-mask.ensures) (scored _ c.args.m.within c.args.number c.requires)

-- D
pub returns : goal.returns
returns c =
    let number = c.args.number in
    let taking = c.reliable_mask-mask.ensures in
    let b = c.args.m.book.now in
    c.linear_weights.ensures _ (level-of number c.requires ∙ le-ltb number 4 c.if-number-lt4.false)
    ∙ (λ i. weights (numbered number).measure (taking i) (c.scores_of-scores.ensures b (own-measures b) taking i))
