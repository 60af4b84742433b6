-- `calls::kinds::first_indicator` meets its contract.
-- Assumes nothing.
use native.Mathlib.Omega.{arith}
use mathlib.Core.Path.{refl, sym, ◌∙◌}
use Rattle.calls.proofs.KindLaws.{from_first}
use Rattle.calls.proofs.kinds.first_indicator.Goals as goal

pub returns-then-takes_interruptions : goal.returns-then-takes_interruptions
returns-then-takes_interruptions c = (from_first c.args.kind ∙ rw (sym c.takes_interruptions.ensures ∙ c.if-takes_interruptions.true) refl, omega arith)

pub returns-else-takes_interruptions : goal.returns-else-takes_interruptions
returns-else-takes_interruptions c = (from_first c.args.kind ∙ rw (sym c.takes_interruptions.ensures ∙ c.if-takes_interruptions.false) refl, omega arith)
