-- `calls::masks::exclude_bit` meets its contract.
-- Assumes nothing.
use mathlib.Core.Path.{refl, sym, ◌∙◌}
use Rattle.calls.specs.Masks.{excluding}
use Rattle.calls.proofs.Bit.{shifted, has-le}
use Rattle.calls.proofs.masks.exclude_bit.Goals as goal

pub overflow_sub-result : goal.overflow_sub-result
overflow_sub-result c =
    rw (shifted c.args.k c.requires) (has-le c.args.mask c.args.k (sym c.has_bit.ensures ∙ c.if-has_bit.true))

pub returns-then-has_bit : goal.returns-then-has_bit
unfolding excluding
returns-then-has_bit c =
    rw (shifted c.args.k c.requires, ← c.has_bit.ensures, c.if-has_bit.true) refl

pub returns : goal.returns
unfolding excluding
returns c = rw (← c.has_bit.ensures, c.if-has_bit.false) refl
