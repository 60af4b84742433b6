-- `posting::in_place::rates` meets its contract.
-- Assumes nothing.
use mathlib.Core.Path.{refl, sym, ◌∙◌}
use Rattle.calls.specs.declared.Call.TheVariants.{Rates}
use Rattle.calls.specs.Indicators.{some}
use Rattle.calls.specs.Call.{facts_of}
use Rattle.ledger.specs.Calls.{changed}
use Rattle.ledger.proofs.AdmissionLaws.{out_of_range, done}
use Rattle.posting.proofs.in_place.rates.Goals as goal

-- 5
pub returns-then-not-rates_in_range : goal.returns-then-not-rates_in_range
unfolding facts_of some
returns-then-not-rates_in_range c = λ kind.
    rw (out_of_range kind c.args.b.now (Rates c.args.pot c.args.cap) refl refl (sym c.rates_in_range.ensures ∙ c.if-not-rates_in_range.true)) (refl, refl)

pub returns : goal.returns
unfolding facts_of some changed
returns c = λ kind.
    rw (done kind c.args.b.now (Rates c.args.pot c.args.cap) refl refl (sym c.rates_in_range.ensures ∙ c.if-not-rates_in_range.false) refl refl refl refl refl) (refl, refl)
