-- `arguments::arguments::rates_in_range` meets its contract.
-- Assumes nothing.
use borrow.Author.Tests.{lt-leb, le-leb}
use Rattle.calls.specs.Limits.{rate_limit}
use Rattle.calls.specs.Call.{facts_of}
use Rattle.arguments.proofs.arguments.rates_in_range.Goals as goal

pub returns-then-pot-le-RATE_LIMIT : goal.returns-then-pot-le-RATE_LIMIT
unfolding facts_of
returns-then-pot-le-RATE_LIMIT c = simp (le-leb c.args.pot rate_limit c.if-pot-le-RATE_LIMIT.true)

pub returns-else-pot-le-RATE_LIMIT : goal.returns-else-pot-le-RATE_LIMIT
unfolding facts_of
returns-else-pot-le-RATE_LIMIT c = simp (lt-leb c.args.pot rate_limit c.if-pot-le-RATE_LIMIT.false)
