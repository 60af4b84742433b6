-- `reader::step` meets its contract.
-- Assumes nothing.
use mathlib.Core.Path.{◌≡◌, sym, ap, ◌∙◌}
use native.Mathlib.Omega.{arith}
use Rattle.calls.specs.Indicators.{indicators_of}
use Rattle.calls.specs.Answers.{on_answer}
use Rattle.fields.specs.Field.{field_in, field_said}
use Rattle.reader.specs.Steps.{stepped_on, stepped}
use Rattle.fields.proofs.FieldLaws.{stands}
use Rattle.reader.proofs.step.Goals as goal

pub advance-requires : goal.advance-requires
advance-requires c =
    let said : field_said c.field_in.result ≡ field_in (indicators_of c.args.ranged.now.kind) c.args.bytes.now c.args.reached.offset = c.field_in.ensures in
    let filing = sym said ∙ ap field_said c.in-CallThen.is in
    let placed = rw filing at (stands (indicators_of c.args.ranged.now.kind) c.args.bytes.now c.args.reached.offset) in
    omega (arith, placed.0, c.requires)

-- a call
pub returns-in-CallThen-clause-turned : goal.returns-in-CallThen-clause-turned
unfolding stepped stepped_on on_answer
returns-in-CallThen-clause-turned c = rw (sym c.field_in.ensures ∙ ap field_said c.in-CallThen.is) c.advance.ensures.turned

-- the end
pub returns-in-End-clause-turned : goal.returns-in-End-clause-turned
unfolding stepped stepped_on on_answer
returns-in-End-clause-turned c = rw (sym c.field_in.ensures ∙ ap field_said c.in-End.is) (c.stop.ensures _)

-- refused by its bytes
pub returns-in-Refused-clause-turned : goal.returns-in-Refused-clause-turned
unfolding stepped stepped_on on_answer
returns-in-Refused-clause-turned c = rw (sym c.field_in.ensures ∙ ap field_said c.in-Refused.is) (c.stop-in-Refused.ensures _)
