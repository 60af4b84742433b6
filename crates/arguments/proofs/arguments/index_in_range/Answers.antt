-- `arguments::arguments::index_in_range` meets its contract.
-- Assumes nothing.
use native.Mathlib.Omega.{arith}
use borrow.Author.Tests.{lt-ltb, le-ltb, lt-leb}
use Rattle.calls.specs.Limits.{index_count, index_least, index_most}
use Rattle.calls.specs.Call.{facts_of}
use Rattle.calls.proofs.Between.{between}
use Rattle.arguments.proofs.arguments.index_in_range.Goals as goal

-- no such index
pub returns-then-number-le-LAST_INDEX : goal.returns-then-number-le-LAST_INDEX
unfolding facts_of
returns-then-number-le-LAST_INDEX c =
    rw (lt-ltb c.args.number index_count (omega arith))
    (between index_least c.args.value index_most (rw (c.new.ensures.start, c.new.ensures.end, c.new.ensures.exhausted) at c.contains.ensures.value))

pub returns-else-number-le-LAST_INDEX : goal.returns-else-number-le-LAST_INDEX
unfolding facts_of
returns-else-number-le-LAST_INDEX c = simp (le-ltb c.args.number index_count (omega arith), lt-leb c.args.number 3 c.if-number-le-LAST_INDEX.false)
