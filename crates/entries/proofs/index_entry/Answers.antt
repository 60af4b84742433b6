-- `entries::index_entry` meets its contract.
-- Assumes nothing.
use mathlib.Core.Path.{refl}
use native.Mathlib.Omega.{arith}
use borrow.Author.Tests.{eq-eqb, ne_eqb}
use Rattle.calls.specs.Limits.{fresh_index}
use Rattle.entries.specs.Entries.{index_at}
use Rattle.entries.proofs.EntryLaws.{nothing-there, index-there}
use Rattle.entries.proofs.index_entry.Goals as goal

pub returns-then-index-eq-FRESH_INDEX : goal.returns-then-index-eq-FRESH_INDEX
unfolding index_at
returns-then-index-eq-FRESH_INDEX c = nothing-there (rw (eq-eqb _ fresh_index c.if-index-eq-FRESH_INDEX.true) refl)

pub returns : goal.returns
unfolding index_at
returns c = rw c.from.ensures (index-there c.args.place _ (omega arith) (rw (ne_eqb _ fresh_index c.if-index-eq-FRESH_INDEX.false) refl))
