-- `output::output_as` meets its contract.
-- Assumes nothing.
use mathlib.Core.Path.{refl}
use native.Mathlib.Omega.{arith}
use Rattle.calls.specs.Indicators.{indicators_of}
use Rattle.text.specs.Text.{bytes_of}
use Rattle.output.specs.Output.{settlement_text_as, output_as}
use Rattle.calls.proofs.SaidLaws.{told-accepted}
use Rattle.output.proofs.RefusalLaws.{at_front}
use Rattle.output.proofs.OutputLaws.{printed-long, at_field, at_end, as-printed}
use Rattle.output.proofs.output_as.Goals as goal

-- too long
pub returns-then-filing-gt-LONGEST_FILING : goal.returns-then-filing-gt-LONGEST_FILING
unfolding bytes_of output_as
returns-then-filing-gt-LONGEST_FILING c =
    let done = as-printed c.args.out.now (at_front c.args.out.now (bytes_of "too long\n") c.put_word.ensures) (printed-long (indicators_of c.args.kind) (settlement_text_as (indicators_of c.args.kind)) c.args.filing.now (omega arith)) in
    record { value = done.0; out_after = done.1 }

-- a field is refused
pub returns-in-Refused : goal.returns-in-Refused
unfolding output_as
returns-in-Refused c =
    let reading = c.read_fresh_as-reading in
    let done = as-printed c.args.out.now (c.put_refused_field.ensures.value, c.put_refused_field.ensures.out_after)
    (at_field (indicators_of c.args.kind) (settlement_text_as (indicators_of c.args.kind)) c.args.filing.now (omega (arith, c.if-filing-gt-LONGEST_FILING.false)) reading.result reading.ensures _ _ refl c.in-Refused.is c.number_of.ensures) in
    record { value = done.0; out_after = done.1 }

-- read to its end
pub returns-in_default : goal.returns-in_default
unfolding output_as
returns-in_default c =
    let reading = c.read_fresh_as-reading in
    let done = as-printed c.args.out.now (c.put_settlement.ensures.value, c.put_settlement.ensures.out_after)
    (at_end (indicators_of c.args.kind) (settlement_text_as (indicators_of c.args.kind)) c.args.filing.now (omega (arith, c.if-filing-gt-LONGEST_FILING.false)) reading.result reading.ensures (told-accepted reading.result.progress.answer c.in_default.not-Refused)) in
    record { value = done.0; out_after = done.1 }
