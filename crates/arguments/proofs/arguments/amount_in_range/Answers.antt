-- `arguments::arguments::amount_in_range` meets its contract.
-- Assumes nothing.
use native.Mathlib.Omega.{arith}
use borrow.Author.Tests.{lt-ltb, le-ltb}
use Rattle.calls.specs.Limits.{years, figure_count}
use Rattle.calls.specs.Call.{facts_of}
use Rattle.calls.proofs.Flags.{denied, granted}
use Rattle.arguments.proofs.arguments.amount_in_range.Goals as goal

pub returns-then-year-gt-LAST_YEAR : goal.returns-then-year-gt-LAST_YEAR
unfolding facts_of
returns-then-year-gt-LAST_YEAR c = simp (le-ltb c.args.year years c.if-year-gt-LAST_YEAR.true)

pub returns-then-figure-gt-LAST_FIGURE : goal.returns-then-figure-gt-LAST_FIGURE
unfolding facts_of
returns-then-figure-gt-LAST_FIGURE c = simp (lt-ltb c.args.year years (omega arith), le-ltb c.args.figure figure_count c.if-figure-gt-LAST_FIGURE.true)

pub returns-then-not-takes_figure : goal.returns-then-not-takes_figure
unfolding facts_of
returns-then-not-takes_figure c = simp (lt-ltb c.args.year years (omega arith), lt-ltb c.args.figure figure_count (omega arith), denied c.takes_figure.ensures c.if-not-takes_figure.true-raw)

pub returns : goal.returns
unfolding facts_of
returns c = simp (lt-ltb c.args.year years (omega arith), lt-ltb c.args.figure figure_count (omega arith), granted c.takes_figure.ensures c.if-not-takes_figure.false-raw)
