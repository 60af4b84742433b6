-- `admission::mark_unattested` meets its contract. The loop's invariant: the first masks have the operator, the others are as
-- they were.
-- Assumes nothing.
use mathlib.Core.Path.{refl, ◌∙◌}
use native.Mathlib.Omega.{arith}
use lib.ListN.{length-set}
use Rattle.ledger.proofs.UnattestedLaws.{marked-none, marked_more, marked_all}
use Rattle.admission.proofs.mark_unattested.Goals as goal

pub loop-indicator-init : goal.loop-indicator-init
loop-indicator-init c = (marked-none, refl)

pub overflow_cast-indicator : goal.overflow_cast-indicator
overflow_cast-indicator c = omega (arith, c.loop-indicator.invariant.1)

pub takes_mark-requires : goal.takes_mark-requires
takes_mark-requires c = omega (arith, c.loop-indicator.invariant.1)

pub loop-indicator-preserved : goal.loop-indicator-preserved
loop-indicator-preserved c =
    let at-loop = c.loop-indicator in
    (marked_more at-loop.invariant.0 (omega (arith, at-loop.invariant.1)) (rw c.takes_mark.ensures at c.mark_newcomer-marked.ensures), length-set at-loop.marks _ _ ∙ at-loop.invariant.1)

pub returns : goal.returns
returns c = marked_all c.loop-indicator.invariant.0 (omega (arith, c.loop-indicator.invariant.1))
