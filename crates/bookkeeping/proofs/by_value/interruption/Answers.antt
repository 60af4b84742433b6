-- `bookkeeping::by_value::interruption` meets its contract.
-- Assumes nothing.
use Rattle.calls.proofs.Times.{back}
use Rattle.bookkeeping.proofs.by_value.interruption.Goals as goal

pub returns : goal.returns
returns c = rw (back c.ranges.start, back c.ranges.end) at c.file.ensures
