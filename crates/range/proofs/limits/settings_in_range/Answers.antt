-- `range::limits::settings_in_range` meets its contract.
-- Assumes nothing.
use Rattle.std.proofs.Common.{rules, tests}
use mathlib.Core.Path.{refl, ◌∙◌}
use Rattle.std.proofs.lemmas.Iterator.{YieldsList-from_range}
use Rattle.std.proofs.lemmas.Iterator.Search.{all_from_yields_List}
use Rattle.calls.specs.Limits.{setting_places}
use Rattle.book.proofs.EveryLaws.{all-below, told-by-every}
use Rattle.book.proofs.FlatRange.{setting_test, settings-hold, settings-fail}
use Rattle.range.proofs.limits.settings_in_range.Goals as goal

pub returns : goal.returns
returns c =
    let b = c.args.b in
    all_from_yields_List (setting_test b) _ _ _ c.all.ensures.ran (YieldsList-from_range 0 setting_places setting_places refl refl) (λ x b q k. search (rules, tests))
    ∙ all-below setting_places (setting_test b) ∙ told-by-every setting_places (setting_test b) (settings-hold b) (settings-fail b)
