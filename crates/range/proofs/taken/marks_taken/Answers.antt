-- `range::taken::marks_taken` meets its contract.
-- Assumes nothing.
use Rattle.std.proofs.Common.{rules, tests}
use mathlib.Core.Path.{refl, ◌∙◌}
use Prim.Native.Nat.{ℕ}
use mathlib.Core.Bool.{◌||◌}
use lib.Dec.{eqb}
use lib.ListN.{get_or}
use Rattle.std.proofs.lemmas.Iterator.{YieldsList-from_range}
use Rattle.std.proofs.lemmas.Iterator.Search.{all_from_yields_List}
use Rattle.calls.specs.Limits.{indicator_count}
use Rattle.calls.specs.Indicators.{indicators_of, takes_mark}
use Rattle.book.proofs.EveryLaws.{all-below, told-by-every}
use Rattle.book.proofs.TakenLaws.{marks-taken, marks-not-taken}
use Rattle.range.proofs.taken.marks_taken.Goals as goal

pub returns : goal.returns
returns c =
    let b = c.args.b in
    let test = (λ (k : ℕ). takes_mark (indicators_of c.args.kind) k || eqb (get_or b.marks k 0) 0) in
    all_from_yields_List test _ _ _ c.all.ensures.ran (YieldsList-from_range 0 indicator_count indicator_count refl refl) (λ x b q k. search (rules, tests))
    ∙ all-below indicator_count test ∙ told-by-every indicator_count test (marks-taken _ _) (marks-not-taken _ _)
