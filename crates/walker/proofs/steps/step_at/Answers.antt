-- `walker::steps::step_at` meets its contract.
-- Assumes nothing.
use Rattle.std.proofs.Common.{ap, ◌∙◌}
use Rattle.walker.specs.Walk.{past, offset_after}
use Rattle.walker.proofs.steps.step_at.Goals as goal

pub returns : goal.returns
unfolding offset_after
returns c = (c.field_at-field.ensures, c.offset_past-offset.ensures ∙ ap (past _) c.field_at-field.ensures)
