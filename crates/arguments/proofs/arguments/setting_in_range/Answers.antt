-- `arguments::arguments::setting_in_range` meets its contract.
-- Assumes nothing.
use native.Mathlib.Omega.{arith}
use borrow.Author.Tests.{lt-ltb, le-ltb}
use Rattle.calls.specs.Limits.{setting_count}
use Rattle.calls.specs.Call.{facts_of}
use Rattle.calls.proofs.Flags.{denied, granted}
use Rattle.arguments.proofs.arguments.setting_in_range.Goals as goal

pub returns-then-which-gt-LAST_SETTING : goal.returns-then-which-gt-LAST_SETTING
unfolding facts_of
returns-then-which-gt-LAST_SETTING c = simp (le-ltb c.args.which setting_count c.if-which-gt-LAST_SETTING.true)

pub returns-then-not-takes_setting : goal.returns-then-not-takes_setting
unfolding facts_of
returns-then-not-takes_setting c = simp (lt-ltb c.args.which setting_count (omega arith), denied c.takes_setting.ensures c.if-not-takes_setting.true-raw)

pub returns : goal.returns
unfolding facts_of
returns c = simp (lt-ltb c.args.which setting_count (omega arith), granted c.takes_setting.ensures c.if-not-takes_setting.false-raw, c.setting_limit.ensures)
