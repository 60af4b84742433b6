-- `readiness::setting_missing` meets its contract.
-- Assumes nothing.
use mathlib.Core.Path.{◌∙◌}
use borrow.Author.Rules.{rules}
use Prim.Native.Nat.{ℕ}
use mathlib.Core.Bool.{◌&&◌}
use lib.Dec.{eqb}
use mathlib.Core.Path.{refl}
use Rattle.calls.specs.Limits.{operators}
use Rattle.book.specs.Book.{is_joined, setting_of}
use Rattle.std.proofs.lemmas.Iterator.{YieldsList-from_range}
use Rattle.std.proofs.lemmas.Iterator.Search.{any_from_yields_List}
use Rattle.readiness.specs.Readiness.{setting_missing}
use Rattle.readiness.proofs.TurnLaws.{any-in-turn}
use Rattle.readiness.proofs.setting_missing.Goals as goal

pub returns : goal.returns
unfolding setting_missing
returns c =
    let b = c.args.b.now in
    let test = λ (operator : ℕ). is_joined b operator && eqb (setting_of b operator c.args.which) 0 in
    any_from_yields_List test _ _ _ c.any.ensures.ran (YieldsList-from_range 0 operators 16 refl refl) (λ x t q k. search rules) ∙ any-in-turn test operators
