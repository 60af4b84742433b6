-- `reader::advance` meets its contract.
-- Assumes nothing.
use mathlib.Core.Path.{◌≡◌, refl, sym, ap, ◌∙◌}
use mathlib.Core.Bool.{true, false}
use Rattle.calls.specs.Answers.{is_refused}
use Rattle.calls.specs.Indicators.{indicators_of}
use Rattle.ledger.specs.Calls.{apply}
use Rattle.filing.specs.Reader.{reached_by}
use Rattle.reader.specs.Steps.{stopped, advanced}
use Rattle.filing.proofs.WalkLaws.{refused-leaves}
use Rattle.reader.proofs.advance.Goals as goal

-- refused: the book stays
pub returns-then-is_refused-clause-turned : goal.returns-then-is_refused-clause-turned
unfolding advanced
returns-then-is_refused-clause-turned c =
    let start = c.args in
    let old = start.ranged.now in
    let gives = c.apply_in-answer.ensures.leaves in
    let stops : is_refused (apply (indicators_of old.kind) old.book start.filing_call).said ≡ true =
    ap is_refused (sym gives.0) ∙ sym c.is_refused.ensures ∙ c.if-is_refused.true in
    rw stops
    (c.stop.ensures _ ∙ (λ i. stopped (reached_by ((gives.1 ∙ refused-leaves _ old.book start.filing_call stops) i) start.reached) (gives.0 i)))

-- applied
pub returns-clause-turned : goal.returns-clause-turned
unfolding advanced
returns-clause-turned c =
    let start = c.args in
    let old = start.ranged.now in
    let gives = c.apply_in-answer.ensures.leaves in
    let goes : is_refused (apply (indicators_of old.kind) old.book start.filing_call).said ≡ false =
    ap is_refused (sym gives.0) ∙ sym c.is_refused.ensures ∙ c.if-is_refused.false in
    rw (goes, ← gives.0, ← gives.1) refl
