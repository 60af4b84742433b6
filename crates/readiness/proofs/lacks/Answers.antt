-- `readiness::lacks` meets its contract.
-- Assumes nothing.
use mathlib.Core.Path.{refl, sym, ◌∙◌}
use Rattle.book.specs.Book.{is_joined, setting_of}
use Rattle.readiness.proofs.lacks.Goals as goal

-- joined
pub returns-then-has_bit : goal.returns-then-has_bit
unfolding is_joined setting_of
returns-then-has_bit c = rw (sym c.has_bit.ensures ∙ c.if-has_bit.true) (rw c.setting_slot.ensures.0 refl)

-- not joined
pub returns-else-has_bit : goal.returns-else-has_bit
unfolding is_joined setting_of
returns-else-has_bit c = rw (sym c.has_bit.ensures ∙ c.if-has_bit.false) c.if-has_bit.false
