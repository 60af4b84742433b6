-- `arguments::arguments::mark_in_range` meets its contract.
-- Assumes nothing.
use native.Mathlib.Omega.{arith}
use borrow.Author.Tests.{lt-ltb, le-ltb}
use Rattle.calls.specs.Limits.{indicator_count}
use Rattle.calls.specs.Call.{facts_of}
use Rattle.calls.proofs.Flags.{denied, granted}
use Rattle.arguments.proofs.arguments.mark_in_range.Goals as goal

pub returns-then-indicator-gt-LAST_INDICATOR : goal.returns-then-indicator-gt-LAST_INDICATOR
unfolding facts_of
returns-then-indicator-gt-LAST_INDICATOR c = simp (le-ltb c.args.indicator indicator_count c.if-indicator-gt-LAST_INDICATOR.true)

pub returns-then-not-takes_mark : goal.returns-then-not-takes_mark
unfolding facts_of
returns-then-not-takes_mark c = simp (lt-ltb c.args.indicator indicator_count (omega arith), denied c.takes_mark.ensures c.if-not-takes_mark.true-raw)

pub returns : goal.returns
unfolding facts_of
returns c = simp (lt-ltb c.args.indicator indicator_count (omega arith), granted c.takes_mark.ensures c.if-not-takes_mark.false-raw)
