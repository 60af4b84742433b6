-- `ledger::entries::enter_counted` meets its contract.
-- Assumes nothing.
use mathlib.Core.Path.{◌≡◌, refl, sym}
use mathlib.Core.List.{List}
use Prim.Native.Nat.{ℕ, ◌+◌, ◌*◌}
use native.Mathlib.Omega.{arith}
use Rattle.calls.specs.Limits.{first_count}
use Rattle.calls.specs.Answers.{counted_in}
use Rattle.calls.specs.Call.{Entry, entry, measured_entries, count_figure, interruption_entries}
use Rattle.book.specs.Book.{figure_slot, figure_of}
use Rattle.ledger.specs.Steps.{CountedInRange, entering}
use Rattle.judging.proofs.ResultLaws.{handed-on}
use Rattle.ledger.proofs.AdmissionLaws.{accepted_call}
use Rattle.ledger.proofs.MoveLaws.{moved_as, refused-entering, slots_apart}
use Rattle.ledger.proofs.LastEntry.{Apart, last-stopped, last-refused, last-moved}
use Rattle.ledger.proofs.entries.enter_counted.Goals as goal

module _ (operator sign level year weight seconds : ℕ) where
  -- what is measured, and the count after it
  abbrev measured : List Entry
  measured = measured_entries operator sign level weight seconds (counted_in year)

  abbrev count : Entry
  count = entry operator year first_count sign 1

  -- figures 0 to 3 are not the count
  apart : CountedInRange operator sign level year weight seconds → Apart measured (figure_slot operator year first_count)
  unfolding measured_entries
  apart within = (
    slots_apart operator year (2 * level) first_count (λ e. omega (arith, e, within.level_most)),
    (slots_apart operator year (2 * level + 1) first_count (λ e. omega (arith, e, within.level_most)), tt),
  )

-- 8 or 9, by the count
pub returns-in_err-moved : goal.returns-in_err-moved
unfolding interruption_entries measured_entries count_figure figure_of
returns-in_err-moved c = λ value.
    let a = c.args.counted in
    let measures = measured a.operator a.sign a.level a.year a.weight a.seconds in
    let counts = count a.operator a.sign a.level a.year a.weight a.seconds in
    let stops = moved_as a.sign 1 _ a.in_range.sign_most _ (rw c.figure_slot-count_at.ensures.0 at c.in_err-moved.ensures) in
    rw (handed-on _ _ _ c.from_residual.ensures.1, last-stopped c.args.b.now measures counts value _ (refl, (refl, tt)) stops) (refl, refl)

-- 8 or 9, by what is measured: the count stays, too
pub returns-in_err-enter_measured : goal.returns-in_err-enter_measured
unfolding interruption_entries measured_entries count_figure figure_of
returns-in_err-enter_measured c = λ value.
    let a = c.args.counted in
    let measures = measured a.operator a.sign a.level a.year a.weight a.seconds in
    let counts = count a.operator a.sign a.level a.year a.weight a.seconds in
    let moves = moved_as a.sign 1 _ a.in_range.sign_most _ (rw c.figure_slot-count_at.ensures.0 at c.in_ok-moved.ensures) in
    let others = c.in_err-enter_measured.ensures value in
    let refuses = refused-entering c.args.b.now measures value _ others.0 in
    rw (handed-on _ _ _ c.from_residual-in_err-enter_measured.ensures.1, last-refused c.args.b.now measures counts value _ moves _ refuses) (refl, rw refuses at others.1)

-- counted
pub returns : goal.returns
unfolding interruption_entries measured_entries count_figure figure_of
returns c = λ value.
    let a = c.args.counted in
    let measures = measured a.operator a.sign a.level a.year a.weight a.seconds in
    let counts = count a.operator a.sign a.level a.year a.weight a.seconds in
    let slot = c.figure_slot-count_at.ensures.0 in
    let moves = moved_as a.sign 1 _ a.in_range.sign_most _ (rw slot at c.in_ok-moved.ensures) in
    let others = c.in_ok-enter_measured.ensures value in
    let entered : entering c.args.b.now measures value ≡ accepted_call c.enter_measured.new.b value = λ i. record { book = sym others.1 i; said = sym others.0 i } in
    rw (slot, last-moved c.args.b.now measures counts value _ moves c.enter_measured.new.b (apart a.operator a.sign a.level a.year a.weight a.seconds a.in_range) entered) (refl, refl)
