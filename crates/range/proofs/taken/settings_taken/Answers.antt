-- `range::taken::settings_taken` meets its contract.
-- Assumes nothing.
use Rattle.std.proofs.Common.{rules, tests}
use mathlib.Core.Path.{refl, ◌∙◌}
use Prim.Native.Nat.{ℕ, ◌%◌}
use mathlib.Core.Bool.{◌||◌}
use lib.Dec.{eqb}
use lib.ListN.{get_or}
use Rattle.std.proofs.lemmas.Iterator.{YieldsList-from_range}
use Rattle.std.proofs.lemmas.Iterator.Search.{all_from_yields_List}
use Rattle.calls.specs.Limits.{setting_places, setting_count}
use Rattle.calls.specs.Indicators.{indicators_of, takes_setting}
use Rattle.book.proofs.EveryLaws.{all-below, told-by-every}
use Rattle.book.proofs.TakenLaws.{settings-taken, settings-not-taken}
use Rattle.range.proofs.taken.settings_taken.Goals as goal

pub returns : goal.returns
returns c =
    let b = c.args.b in
    let test = (λ (k : ℕ). takes_setting (indicators_of c.args.kind) (k % setting_count) || eqb (get_or b.settings k 0) 0) in
    all_from_yields_List test _ _ _ c.all.ensures.ran (YieldsList-from_range 0 setting_places setting_places refl refl) (λ x b q k. search (rules, tests))
    ∙ all-below setting_places test ∙ told-by-every setting_places test (settings-taken _ _) (settings-not-taken _ _)
