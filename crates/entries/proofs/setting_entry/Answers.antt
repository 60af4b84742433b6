-- `entries::setting_entry` meets its contract.
-- Assumes nothing.
use mathlib.Core.Path.{◌≡◌, refl}
use native.Mathlib.Omega.{arith}
use borrow.Author.Tests.{eq-eqb, ne_eqb}
use Rattle.calls.specs.Limits.{setting_count}
use Rattle.book.specs.Book.{setting_slot}
use Rattle.entries.specs.Entries.{setting_at}
use Rattle.entries.proofs.EntryLaws.{nothing-there, setting_there}
use Prim.Native.Nat.{◌/◌, ◌%◌}
use Rattle.entries.proofs.setting_entry.Goals as goal

pub returns-then-value-eq0 : goal.returns-then-value-eq0
unfolding setting_at
returns-then-value-eq0 c =
    let place = c.args.place in
    let at : c.setting_slot.result ≡ setting_slot (place / setting_count) (place % setting_count) = c.setting_slot.ensures.0 in
    nothing-there (rw (← at, eq-eqb _ 0 c.if-value-eq0.true) refl)

pub returns : goal.returns
unfolding setting_at
returns c =
    let place = c.args.place in
    setting_there (place / setting_count) (omega arith) (place % setting_count) _ (omega arith) (rw (← c.setting_slot.ensures.0, ne_eqb _ 0 c.if-value-eq0.false) refl)
