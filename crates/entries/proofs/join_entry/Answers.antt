-- `entries::join_entry` meets its contract.
-- Assumes nothing.
use mathlib.Core.Path.{refl, sym, ◌∙◌}
use Rattle.entries.specs.Entries.{join_at}
use Rattle.entries.proofs.EntryLaws.{nothing-there, join-there}
use Rattle.entries.proofs.join_entry.Goals as goal

pub returns-then-not-has_bit : goal.returns-then-not-has_bit
unfolding join_at
returns-then-not-has_bit c = nothing-there (rw (sym c.has_bit.ensures ∙ c.if-not-has_bit.true) refl)

pub returns : goal.returns
unfolding join_at
returns c = join-there c.args.place c.requires (rw (sym c.has_bit.ensures ∙ c.if-not-has_bit.false) refl)
