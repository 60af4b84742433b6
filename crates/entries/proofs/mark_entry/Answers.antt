-- `entries::mark_entry` meets its contract.
-- Assumes nothing.
use mathlib.Core.Path.{◌≡◌, sym, ap, ◌∙◌}
use mathlib.Core.Bool.{Bool, cond, not, ◌&&◌}
use mathlib.Core.List.{List, [], ◌∷◌}
use native.Mathlib.Omega.{arith}
use Rattle.calls.specs.declared.Call.{Call}
use Rattle.calls.specs.declared.Call.TheVariants.{Mark}
use lib.ListN.{get_or}
use Rattle.calls.specs.Limits.{indicator_count}
use Rattle.calls.specs.Masks.{has}
use Rattle.calls.specs.Indicators.{indicators_of, takes_mark}
use Rattle.entries.specs.Entries.{mark_at}
use Rattle.entries.proofs.EntryLaws.{nothing-there, mark-there}
use Prim.Native.Nat.{ℕ, ◌/◌, ◌%◌}
use Rattle.entries.proofs.mark_entry.Goals as goal
use Rattle.entries.proofs.mark_entry.Goals.{After-is_cleared}

-- the calls at a place, by whether its mark is cleared
abbrev written-if : ℕ → Bool → List Call
written-if place cleared = cond cleared (Mark (place / indicator_count) (place % indicator_count) 0 ∷ []) []

-- what was found of the mark
cleared : (m : After-is_cleared) → m.is_cleared.result
    ≡ has m.args.b.now.joined (m.args.place / indicator_count)
    && (takes_mark (indicators_of m.args.kind) (m.args.place % indicator_count)
    && not (has (get_or m.args.b.now.marks (m.args.place % indicator_count) 0) (m.args.place / indicator_count)))
cleared m =
    let taken : m.takes_mark-taken.result ≡ takes_mark (indicators_of m.args.kind) (m.args.place % indicator_count) = m.takes_mark-taken.ensures in
    rw (← taken) m.is_cleared.ensures

pub returns-then-not-is_cleared : goal.returns-then-not-is_cleared
unfolding mark_at
returns-then-not-is_cleared c =
    nothing-there (ap (written-if c.args.place) (sym (cleared (goal.at.returns-then-not-is_cleared c).After-is_cleared) ∙ c.if-not-is_cleared.true))

pub returns : goal.returns
unfolding mark_at
returns c =
    let place = c.args.place in
    mark-there (place / indicator_count) (omega arith) (place % indicator_count) (omega arith) (ap (written-if place) (sym (cleared (goal.at.returns c).After-is_cleared) ∙ c.if-not-is_cleared.false))
