-- `readiness::all_marked` meets its contract.
-- Assumes nothing.
use Prim.Native.Nat.{◌-◌}
use mathlib.Core.Path.{refl, sym, ap, ◌∙◌}
use native.Mathlib.Omega.{arith}
use borrow.Author.Rules.{rules}
use Rattle.std.specs.List.{range_with_len, list_all}
use Rattle.std.proofs.lemmas.Iterator.{YieldsList-from_range}
use Rattle.std.proofs.lemmas.Iterator.Search.{all_from_yields_List}
use Rattle.readiness.specs.Readiness.{all_marked}
use Rattle.readiness.proofs.TurnLaws.{nobody, nobody-same, marked-in-turn}
use Rattle.readiness.proofs.all_marked.Goals as goal

pub returns : goal.returns
returns c = λ other ranged marked.
    let b = c.args.b.now in
    let first = c.first_indicator.result in
    all_from_yields_List (nobody b) _ _ _ c.all.ensures.ran (YieldsList-from_range first 6 (6 - first) refl refl) (λ x t q k. search rules)
    ∙ (λ i. list_all (nobody-same b other marked i) (range_with_len first (6 - first)))
    ∙ marked-in-turn other ranged first (6 - first) (omega arith)
    ∙ sym (ap (all_marked other) c.first_indicator.ensures.0)
