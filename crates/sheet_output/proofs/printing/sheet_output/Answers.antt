-- `sheet_output::printing::sheet_output` meets its contract.
-- Assumes nothing.
use mathlib.Core.Path.{refl}
use native.Mathlib.Omega.{arith}
use Rattle.calls.specs.Indicators.{electricity}
use Rattle.text.specs.Text.{bytes_of}
use Rattle.calls.proofs.SaidLaws.{told-accepted}
use Rattle.output.proofs.RefusalLaws.{at_front}
use Rattle.output.proofs.OutputLaws.{printed-long, at_field, at_end, as-printed}
use Rattle.sheet_output.specs.SheetOutput.{sheet_text, sheet_output_of}
use Rattle.sheet_output.proofs.printing.sheet_output.Goals as goal

-- too long
pub returns-then-filing-gt-LONGEST_FILING : goal.returns-then-filing-gt-LONGEST_FILING
unfolding bytes_of sheet_output_of
returns-then-filing-gt-LONGEST_FILING c =
    let done = as-printed c.args.out.now (at_front c.args.out.now (bytes_of "too long\n") c.put_word.ensures) (printed-long electricity (sheet_text c.args.operator c.args.year) c.args.filing.now (omega arith)) in
    record { value = done.0; out_after = done.1 }

-- a field is refused
pub returns-in-Refused : goal.returns-in-Refused
unfolding sheet_output_of
returns-in-Refused c =
    let reading = c.read_fresh-reading in
    let done = as-printed c.args.out.now (c.put_refused_field.ensures.value, c.put_refused_field.ensures.out_after)
    (at_field electricity (sheet_text c.args.operator c.args.year) c.args.filing.now (omega (arith, c.if-filing-gt-LONGEST_FILING.false)) reading.result reading.ensures _ _ refl c.in-Refused.is c.number_of.ensures) in
    record { value = done.0; out_after = done.1 }

-- read to its end
pub returns-in_default : goal.returns-in_default
unfolding sheet_output_of
returns-in_default c =
    let reading = c.read_fresh-reading in
    let done = as-printed c.args.out.now (c.put_sheet.ensures.value, c.put_sheet.ensures.out_after)
    (at_end electricity (sheet_text c.args.operator c.args.year) c.args.filing.now (omega (arith, c.if-filing-gt-LONGEST_FILING.false)) reading.result reading.ensures (told-accepted reading.result.progress.answer c.in_default.not-Refused)) in
    record { value = done.0; out_after = done.1 }
