-- `values::measures::frequency` meets its contract.
-- Assumes nothing.
use Rattle.book.specs.Book.{setting_of}
use Rattle.values.specs.Indicator.{yearly_value}
use Rattle.values.proofs.measures.frequency.Goals as goal

pub returns : goal.returns
unfolding yearly_value setting_of
returns c = λ by-year same.
    rw (same, ← c.figure_in-times.ensures.value, ← c.setting_slot.ensures.0) c.divide.ensures.0
