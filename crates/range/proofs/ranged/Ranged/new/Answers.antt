-- `range::Ranged::new` meets its contract: what was tested is the value's invariant.
-- Assumes nothing.
use mathlib.Core.Path.{sym, ◌∙◌}
use Rattle.range.proofs.ranged.Ranged.new.Goals as goal

pub invariant_of-result : goal.invariant_of-result
invariant_of-result c = record { ranged = sym c.in_range.ensures ∙ c.if-not-in_range.false }
