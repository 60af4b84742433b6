-- `sheet_output::printing::put_sheet` meets its contract.
-- Assumes nothing.
use mathlib.Core.Path.{sym, ap, ◌∙◌}
use lib.ListN.{length}
use Rattle.calls.specs.Answers.{is_refused, said}
use Rattle.calls.proofs.SaidLaws.{told-accepted}
use Rattle.text.specs.Buffer.{put_into}
use Rattle.output.specs.Output.{refused_line}
use Rattle.sheet_output.specs.SheetOutput.{count_lines}
use Rattle.sheet_output.proofs.CountLaws.{sheet-refused, sheet-given}
use Rattle.sheet_output.proofs.printing.put_sheet.Goals as goal

-- refused
pub returns-in-Refused : goal.returns-in-Refused
returns-in-Refused c =
    let asked = c.sheet-asked in
    let refused = sym asked.ensures.answer_value ∙ ap said c.in-Refused.is in
    let line = c.put_refused_line.ensures in
    let text = ap refused_line c.number_of.ensures ∙ sheet-refused c.args.operator c.args.year c.args.b _ refused in
    record { value = line.value ∙ ap length text; out_after = line.out_after ∙ ap (put_into _) text }

-- the five figures
pub returns-in_default : goal.returns-in_default
returns-in_default c =
    let asked = c.sheet-asked in
    let fine = ap is_refused (sym asked.ensures.answer_value) ∙ told-accepted asked.result.answer c.in_default.not-Refused in
    let lines = c.put_counts.ensures in
    let text = ap count_lines asked.ensures.counts_value ∙ sheet-given c.args.operator c.args.year c.args.b fine in
    record { value = lines.value ∙ ap length text; out_after = lines.out_after ∙ ap (put_into _) text }
