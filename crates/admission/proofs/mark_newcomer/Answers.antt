-- `admission::mark_newcomer` meets its contract.
-- Assumes nothing.
use mathlib.Core.Path.{refl}
use Rattle.admission.proofs.mark_newcomer.Goals as goal

pub returns-then-taken : goal.returns-then-taken
returns-then-taken c = rw c.if-taken.true c.include_bit.ensures

pub returns : goal.returns
returns c = rw c.if-taken.false refl
