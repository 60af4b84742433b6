-- `readiness::network_missing` meets its contract.
-- Assumes nothing.
use mathlib.Core.Path.{refl, ◌∙◌}
use borrow.Author.Rules.{rules}
use Prim.Native.Nat.{ℕ}
use mathlib.Core.Bool.{◌&&◌}
use Rattle.calls.specs.Limits.{setting_count}
use Rattle.calls.specs.Indicators.{indicators_of, is_network}
use Rattle.std.proofs.lemmas.Iterator.{YieldsList-from_range}
use Rattle.std.proofs.lemmas.Iterator.Search.{any_from_yields_List}
use Rattle.readiness.specs.Readiness.{network_missing, setting_missing}
use Rattle.readiness.proofs.TurnLaws.{any-in-turn}
use Rattle.readiness.proofs.network_missing.Goals as goal

pub returns : goal.returns
unfolding network_missing
returns c =
    let test = λ (which : ℕ). is_network (indicators_of c.args.kind) which && setting_missing c.args.b.now which in
    any_from_yields_List test _ _ _ c.any.ensures.ran (YieldsList-from_range 0 setting_count 5 refl refl) (λ x t q k. search rules) ∙ any-in-turn test setting_count
