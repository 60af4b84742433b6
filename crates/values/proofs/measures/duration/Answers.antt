-- `values::measures::duration` meets its contract.
-- Assumes nothing.
use Rattle.values.specs.Indicator.{yearly_value}
use Rattle.values.proofs.measures.duration.Goals as goal

pub returns : goal.returns
unfolding yearly_value
returns c = rw (← c.figure_in-lasted.ensures.value, ← c.figure_in.ensures.value) c.divide.ensures.0
