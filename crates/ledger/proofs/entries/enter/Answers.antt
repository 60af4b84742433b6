-- `ledger::entries::enter` meets its contract.
-- Assumes nothing.
use mathlib.Core.Path.{refl}
use Rattle.calls.specs.Call.{entry}
use Rattle.book.specs.Book.{figure_of}
use Rattle.judging.proofs.ResultLaws.{handed-on}
use Rattle.ledger.proofs.MoveLaws.{moved_as, one-moved, one-stopped}
use Rattle.ledger.proofs.entries.enter.Goals as goal

-- 8 or 9
pub returns-in_err-b : goal.returns-in_err-b
unfolding figure_of
returns-in_err-b c = λ value.
    let a = c.args.one in
    let stops = moved_as a.sign a.value _ a.in_range.sign_most _ (rw c.figure_slot-at.ensures.0 at c.in_err-b.ensures) in
    rw (handed-on _ _ _ c.from_residual.ensures.1, one-stopped c.args.b.now (entry a.operator a.year a.figure a.sign a.value) value _ stops) (refl, refl)

-- the figure moves
pub returns : goal.returns
unfolding figure_of
returns c = λ value.
    let a = c.args.one in
    let slot = c.figure_slot-at.ensures.0 in
    let moves = moved_as a.sign a.value _ a.in_range.sign_most _ (rw slot at c.in_ok-b.ensures) in
    rw (slot, one-moved c.args.b.now (entry a.operator a.year a.figure a.sign a.value) value _ moves) (refl, refl)
