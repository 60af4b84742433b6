-- `range::limits::all_within` meets its contract. Std tests the numbers of a range, and the law says what that is of every figure.
-- Assumes nothing.
use Rattle.std.proofs.Common.{rules, tests}
use mathlib.Core.Path.{refl, ◌∙◌}
use native.Mathlib.Omega.{arith}
use lib.Dec.{leb}
use lib.ListN.{get_or}
use Prim.Native.Nat.{ℕ, ◌*◌}
use Rattle.std.proofs.lemmas.Iterator.{YieldsList-from_range}
use Rattle.std.proofs.lemmas.Iterator.Search.{all_from_yields_List}
use Rattle.calls.specs.Limits.{operator_figures}
use Rattle.book.proofs.EveryLaws.{all-from}
use Rattle.range.proofs.limits.all_within.Goals as goal

pub returns : goal.returns
returns c =
    let from = c.args.operator * operator_figures in
    let test = λ (i : ℕ). leb (get_or c.args.figures.now i 0) c.most_allowed-most.result in
    let tested =
    all_from_yields_List test _ _ _ c.all.ensures.ran (YieldsList-from_range from _ operator_figures refl (omega arith)) (λ x b q k. search (rules, tests))
    ∙ all-from from operator_figures test in
    rw c.most_allowed-most.ensures at tested
