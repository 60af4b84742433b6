-- `entries::amount_entry` meets its contract.
-- Assumes nothing.
use mathlib.Core.Path.{◌≡◌, refl}
use native.Mathlib.Omega.{arith}
use borrow.Author.Tests.{eq-eqb, ne_eqb}
use lib.ListN.{get_or}
use Rattle.calls.specs.Limits.{figure_count, operator_figures}
use Rattle.book.specs.Book.{figure_slot}
use Rattle.entries.specs.Entries.{amount_at}
use Rattle.entries.proofs.EntryLaws.{nothing-there, amount-there}
use Prim.Native.Nat.{◌/◌, ◌%◌}
use Rattle.entries.proofs.amount_entry.Goals as goal

pub returns-then-value-eq0 : goal.returns-then-value-eq0
unfolding amount_at
returns-then-value-eq0 c =
    let place = c.args.place in
    let at : c.figure_slot.result ≡ figure_slot (place / operator_figures) (place % operator_figures / figure_count) (place % figure_count) = c.figure_slot.ensures.0 in
    nothing-there (rw (← at, eq-eqb _ 0 c.if-value-eq0.true) refl)

pub returns : goal.returns
unfolding amount_at
returns c =
    let place = c.args.place in
    let figures = c.args.b.now.figures in
    amount-there (place / operator_figures) (omega arith) {calls = amount_at figures place} (place % operator_figures / figure_count) (place % figure_count) (get_or figures c.figure_slot.result 0) (omega arith) (omega arith) (rw (← c.figure_slot.ensures.0, ne_eqb _ 0 c.if-value-eq0.false) refl)
