-- `ledger::entries::enter_measured` meets its contract.
-- Assumes nothing.
use Prim.Native.Nat.{◌+◌, ◌*◌}
use mathlib.Core.Path.{refl}
use mathlib.Core.List.{[], ◌∷◌}
use native.Mathlib.Omega.{arith}
use Rattle.book.specs.Book.{figure_of}
use Rattle.calls.specs.Call.{Entry, entry, measured_entries}
use Rattle.judging.proofs.ResultLaws.{handed-on}
use Rattle.ledger.proofs.MoveLaws.{moved_as, one-moved, first-stopped, slots_apart}
use Rattle.ledger.proofs.LastEntry.{last-stopped, last-moved}
use Rattle.ledger.proofs.entries.enter_measured.Goals as goal

-- 8 or 9, by the weight
pub returns-in_err-moved : goal.returns-in_err-moved
unfolding measured_entries figure_of
returns-in_err-moved c = λ value.
    let a = c.args.counted in
    let weight : Entry = entry a.operator a.year (2 * a.level) a.sign a.weight in
    let seconds : Entry = entry a.operator a.year (2 * a.level + 1) a.sign (a.weight * a.seconds) in
    let stops = moved_as a.sign a.weight _ a.in_range.sign_most _ (rw c.figure_slot-weight_at.ensures.0 at c.in_err-moved.ensures) in
    rw (handed-on _ _ _ c.from_residual.ensures.1, first-stopped c.args.b.now weight value (seconds ∷ []) _ (refl, tt) stops) (refl, refl)

-- 8 or 9, by the seconds
pub returns-in_err-moved_seconds : goal.returns-in_err-moved_seconds
unfolding measured_entries figure_of
returns-in_err-moved_seconds c = λ value.
    let a = c.args.counted in
    let weight : Entry = entry a.operator a.year (2 * a.level) a.sign a.weight in
    let seconds : Entry = entry a.operator a.year (2 * a.level + 1) a.sign (a.weight * a.seconds) in
    let stops = moved_as a.sign (a.weight * a.seconds) _ a.in_range.sign_most _ (rw c.figure_slot-seconds_at.ensures.0 at c.in_err-moved_seconds.ensures) in
    rw (handed-on _ _ _ c.from_residual-in_err-moved_seconds.ensures.1, last-stopped c.args.b.now (weight ∷ []) seconds value _ (refl, tt) stops) (refl, refl)

-- both figures move
pub returns : goal.returns
unfolding measured_entries figure_of
returns c = λ value.
    let a = c.args.counted in
    let weight : Entry = entry a.operator a.year (2 * a.level) a.sign a.weight in
    let seconds : Entry = entry a.operator a.year (2 * a.level + 1) a.sign (a.weight * a.seconds) in
    let weight-slot = c.figure_slot-weight_at.ensures.0 in
    let seconds-slot = c.figure_slot-seconds_at.ensures.0 in
    let moves = moved_as a.sign a.weight _ a.in_range.sign_most _ (rw weight-slot at c.in_ok-moved.ensures) in
    let moves_seconds = moved_as a.sign (a.weight * a.seconds) _ a.in_range.sign_most _ (rw seconds-slot at c.in_ok-moved_seconds.ensures) in
    rw (weight-slot, seconds-slot, last-moved c.args.b.now (weight ∷ []) seconds value _ moves_seconds _ (slots_apart a.operator a.year (2 * a.level) (2 * a.level + 1) (λ e. omega (arith, e)), tt) (one-moved c.args.b.now weight value _ moves)) (refl, refl)
