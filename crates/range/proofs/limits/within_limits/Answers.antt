-- `range::limits::within_limits` meets its contract.
-- Assumes nothing.
use mathlib.Core.Path.{refl, sym, ◌∙◌}
use Rattle.calls.proofs.Flags.{and-true-right}
use Rattle.book.proofs.Bounds.{complete, sixteen-bits}
use Rattle.book.specs.Book.{within_limits}
use borrow.Author.Rules.{rules}
use Rattle.range.proofs.limits.within_limits.Goals as goal

-- a setting is out of range
pub returns-then-not-settings_in_range : goal.returns-then-not-settings_in_range
unfolding within_limits
returns-then-not-settings_in_range c =
    rw
    (sym c.settings_in_range.ensures ∙ c.if-not-settings_in_range.true)
    refl

-- a figure is
pub returns-then-not-figures_in_range : goal.returns-then-not-figures_in_range
unfolding within_limits
returns-then-not-figures_in_range c =
    rw (
      sym c.settings_in_range.ensures ∙ c.if-not-settings_in_range.false,
      sym c.figures_in_range.ensures ∙ c.if-not-figures_in_range.true,
    )
    refl

-- a mark is
pub returns-then-not-marks_in_range : goal.returns-then-not-marks_in_range
unfolding within_limits
returns-then-not-marks_in_range c =
    rw (
      sym c.settings_in_range.ensures ∙ c.if-not-settings_in_range.false,
      sym c.figures_in_range.ensures ∙ c.if-not-figures_in_range.false,
      sym c.marks_in_range.ensures ∙ c.if-not-marks_in_range.true,
    )
    refl

-- a rate is
pub returns-then-not-rates_in_range : goal.returns-then-not-rates_in_range
unfolding within_limits
returns-then-not-rates_in_range c =
    rw (
      sym c.settings_in_range.ensures ∙ c.if-not-settings_in_range.false,
      sym c.figures_in_range.ensures ∙ c.if-not-figures_in_range.false,
      sym c.marks_in_range.ensures ∙ c.if-not-marks_in_range.false,
      sym c.rates_in_range.ensures ∙ c.if-not-rates_in_range.true,
    )
    refl

-- the indices decide
pub returns : goal.returns
unfolding within_limits
returns c =
    rw (
      sym c.settings_in_range.ensures ∙ c.if-not-settings_in_range.false,
      sym c.figures_in_range.ensures ∙ c.if-not-figures_in_range.false,
      sym c.marks_in_range.ensures ∙ c.if-not-marks_in_range.false,
      sym c.rates_in_range.ensures ∙ c.if-not-rates_in_range.false,
      complete c.args.b (search rules) (search rules) (search rules) (search rules),
      sixteen-bits {mask = c.args.b.joined} (search rules),
    )
    (simp and-true-right c.indices_in_range.ensures)
