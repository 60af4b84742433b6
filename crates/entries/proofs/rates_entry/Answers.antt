-- `entries::rates_entry` meets its contract.
-- Assumes nothing.
use mathlib.Core.Path.{refl}
use mathlib.Core.Bool.{cond, ◌&&◌}
use mathlib.Core.List.{[], ◌∷◌}
use Rattle.calls.specs.declared.Call.TheVariants.{Rates}
use borrow.Author.Tests.{eq-eqb, ne_eqb}
use Rattle.calls.proofs.Flags.{and-false-right}
use Rattle.entries.specs.Entries.{rates_at}
use Rattle.entries.proofs.EntryLaws.{nothing-there, rates-there}
use Rattle.entries.proofs.rates_entry.Goals as goal
use Rattle.entries.proofs.rates_entry.Goals.{else-b-eq0-via-then-b-eq0+else-b-eq0-2, else-b-eq0-via-else-b-eq0}

pub returns-then-b-eq0-2 : goal.returns-then-b-eq0-2
unfolding rates_at
returns-then-b-eq0-2 c =
    let b = c.args.b.now in
    nothing-there (λ i. cond (eq-eqb b.pot_rate 0 c.if-b-eq0.true i && eq-eqb b.cap_rate 0 c.if-b-eq0-2.true i) [] (Rates b.pot_rate b.cap_rate ∷ []))

pub returns : goal.returns
unfolding rates_at
returns c =
    let pot = c.args.b.now.pot_rate in
    let cap = c.args.b.now.cap_rate in
    rates-there pot cap
    (elim c.else-b-eq0.branch [
      | else-b-eq0-via-then-b-eq0+else-b-eq0-2 w ↦ rw (ne_eqb cap 0 w.if-b-eq0-2.false, and-false-right) refl
      | else-b-eq0-via-else-b-eq0 w ↦ rw (ne_eqb pot 0 w.if-b-eq0.false) refl
    ])
