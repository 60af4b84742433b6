-- `weighing::linear_weight` meets its contract.
-- Assumes nothing.
use mathlib.Core.Path.{refl, sym, ◌∙◌}
use Rattle.weighing.proofs.linear_weight.Goals as goal

pub returns-then-not-has_bit : goal.returns-then-not-has_bit
returns-then-not-has_bit c = rw (sym c.has_bit.ensures ∙ c.if-not-has_bit.true) refl

pub returns : goal.returns
returns c = rw (sym c.has_bit.ensures ∙ c.if-not-has_bit.false, c.normalise.ensures.0) refl
