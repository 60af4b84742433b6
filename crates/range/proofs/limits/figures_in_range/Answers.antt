-- `range::limits::figures_in_range` meets its contract.
-- Assumes nothing.
use Rattle.std.proofs.Common.{rules, tests}
use mathlib.Core.Path.{refl, ◌∙◌}
use Prim.Native.Nat.{ℕ}
use Rattle.std.proofs.lemmas.Iterator.{YieldsList-from_range}
use Rattle.std.proofs.lemmas.Iterator.Search.{all_from_yields_List}
use Rattle.calls.specs.Limits.{operators, operator_figures}
use Rattle.book.specs.Book.{every}
use Rattle.book.proofs.EveryLaws.{all-below, told-by-every}
use Rattle.book.proofs.FlatRange.{figure_test, figures-hold, figures-fail}
use Rattle.range.proofs.limits.figures_in_range.Goals as goal

pub returns : goal.returns
returns c =
    let b = c.args.b in
    let test = λ (operator : ℕ). every operator_figures (figure_test b operator) in
    all_from_yields_List test _ _ _ c.all.ensures.ran (YieldsList-from_range 0 operators operators refl refl) (λ x b q k. search (rules, tests))
    ∙ all-below operators test ∙ told-by-every operators test (figures-hold b) (figures-fail b)
