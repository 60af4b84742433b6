-- `admission::mark_unattested` meets its contract. The loop's invariant: the first masks have the operator, the others are as
-- they were.
-- Assumes nothing.
use mathlib.Core.Path.{◌≡◌}
use lib.ListN.{length}
use Rattle.calls.specs.Indicators.{indicators_of}
use Rattle.ledger.proofs.UnattestedLaws.{MarkedTo}
use Rattle.admission.proofs.mark_unattested.Given as goal

abbrev pub invariant-loop-indicator : goal.invariant-loop-indicator
invariant-loop-indicator l = MarkedTo (indicators_of l.kind) l.initial.marks l.operator l.indicator l.marks × (length l.marks ≡ length l.initial.marks)
