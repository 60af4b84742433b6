-- `range::limits::index_within` meets its contract.
-- Assumes nothing.
use Rattle.calls.specs.Limits.{index_least, index_most}
use Rattle.calls.proofs.Between.{between}
use Rattle.range.proofs.limits.index_within.Goals as goal

pub returns : goal.returns
returns c = between index_least c.args.value index_most (rw (c.new.ensures.start, c.new.ensures.end, c.new.ensures.exhausted) at c.contains.ensures.value)
