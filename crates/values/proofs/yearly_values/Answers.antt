-- `values::yearly_values` meets its contract.
-- Assumes nothing.
use mathlib.Core.Path.{refl}
use Rattle.values.specs.Sequence.{values_by_year}
use Rattle.values.specs.Operators.{table}
use Rattle.values.proofs.yearly_values.Goals as goal

pub returns : goal.returns
unfolding values_by_year table
returns c = rw (c.values_in.ensures, c.values_in-2.ensures, c.values_in-3.ensures) refl
