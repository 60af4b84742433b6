-- `weighing::is_better` meets its contract.
-- Assumes nothing.
use mathlib.Core.Path.{refl, sym, ◌∙◌}
use native.Mathlib.Omega.{arith}
use native.Mathlib.Nat.{mul-le-mul}
use Rattle.weighing.proofs.is_better.Goals as goal

pub returns-else-has_bit : goal.returns-else-has_bit
returns-else-has_bit c = rw (sym c.has_bit.ensures ∙ c.if-has_bit.false) c.if-has_bit.false

pub overflow_mul-result : goal.overflow_mul-result
overflow_mul-result c = record { fits = omega (arith, mul-le-mul c.ones_of.ensures.1 c.requires) }

pub returns-then-has_bit : goal.returns-then-has_bit
returns-then-has_bit c = rw (sym c.has_bit.ensures ∙ c.if-has_bit.true, c.ones_of.ensures.0) refl
