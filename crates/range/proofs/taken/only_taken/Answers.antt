-- `range::taken::only_taken` meets its contract.
-- Assumes nothing.
use mathlib.Core.Bool.{false}
use mathlib.Core.Path.{◌≡◌, refl, sym, ◌∙◌}
use Rattle.calls.specs.Indicators.{indicators_of}
use Rattle.book.specs.Book.{settings_taken, figures_taken, only_taken}
use Rattle.range.proofs.taken.only_taken.Goals as goal

pub returns-then-not-settings_taken : goal.returns-then-not-settings_taken
unfolding only_taken
returns-then-not-settings_taken c =
    let start = c.args in
    let none : settings_taken (indicators_of start.kind) start.b ≡ false = sym c.settings_taken.ensures ∙ c.if-not-settings_taken.true in
    rw none refl

pub returns-then-not-figures_taken : goal.returns-then-not-figures_taken
unfolding only_taken
returns-then-not-figures_taken c =
    let start = c.args in
    let none : figures_taken (indicators_of start.kind) start.b ≡ false = sym c.figures_taken.ensures ∙ c.if-not-figures_taken.true in
    rw (sym c.settings_taken.ensures ∙ c.if-not-settings_taken.false, none) refl

pub returns : goal.returns
unfolding only_taken
returns c =
    rw (
      sym c.settings_taken.ensures ∙ c.if-not-settings_taken.false,
      sym c.figures_taken.ensures ∙ c.if-not-figures_taken.false,
    )
    c.marks_taken.ensures
