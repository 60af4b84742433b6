-- `range::taken::figures_taken` meets its contract.
-- Assumes nothing.
use Rattle.std.proofs.Common.{rules, tests}
use mathlib.Core.Path.{refl, ◌∙◌}
use Prim.Native.Nat.{ℕ, ◌%◌}
use mathlib.Core.Bool.{◌||◌}
use lib.Dec.{eqb}
use lib.ListN.{get_or}
use Rattle.std.proofs.lemmas.Iterator.{YieldsList-from_range}
use Rattle.std.proofs.lemmas.Iterator.Search.{all_from_yields_List}
use Rattle.calls.specs.Limits.{figure_places, figure_count}
use Rattle.calls.specs.Indicators.{indicators_of, takes_figure}
use Rattle.book.proofs.EveryLaws.{all-below, told-by-every}
use Rattle.book.proofs.TakenLaws.{figures-taken, figures-not-taken}
use Rattle.range.proofs.taken.figures_taken.Goals as goal

pub returns : goal.returns
returns c =
    let b = c.args.b in
    let test = (λ (k : ℕ). takes_figure (indicators_of c.args.kind) (k % figure_count) || eqb (get_or b.figures k 0) 0) in
    all_from_yields_List test _ _ _ c.all.ensures.ran (YieldsList-from_range 0 figure_places figure_places refl refl) (λ x b q k. search (rules, tests))
    ∙ all-below figure_places test ∙ told-by-every figure_places test (figures-taken _ _) (figures-not-taken _ _)
