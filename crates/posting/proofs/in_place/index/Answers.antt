-- `posting::in_place::index` meets its contract.
-- Assumes nothing.
use mathlib.Core.Path.{refl, sym, ◌∙◌}
use Rattle.calls.specs.declared.Call.TheVariants.{Index}
use Rattle.calls.specs.Indicators.{electricity, some}
use Rattle.calls.specs.Call.{facts_of}
use Rattle.ledger.specs.Calls.{changed}
use Rattle.calls.proofs.RangeLaws.{ranges}
use Rattle.ledger.proofs.AdmissionLaws.{out_of_range, done}
use Rattle.posting.proofs.in_place.index.Goals as goal

-- 5
pub returns-then-not-index_in_range : goal.returns-then-not-index_in_range
unfolding facts_of some
returns-then-not-index_in_range c = λ kind.
    rw (out_of_range kind c.args.b.now (Index c.args.number c.args.value) refl refl (sym c.index_in_range.ensures ∙ c.if-not-index_in_range.true)) (refl, refl)

pub bounds-b-number : goal.bounds-b-number
unfolding facts_of
bounds-b-number c =
    (ranges electricity (Index c.args.number c.args.value) (sym c.index_in_range.ensures ∙ c.if-not-index_in_range.false) refl).0

pub returns : goal.returns
unfolding facts_of some changed
returns c = λ kind.
    rw (done kind c.args.b.now (Index c.args.number c.args.value) refl refl (sym c.index_in_range.ensures ∙ c.if-not-index_in_range.false) refl refl refl refl refl) (refl, refl)
