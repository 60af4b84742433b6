-- `report::reporting::report_as` meets its contract.
-- Assumes nothing.
use mathlib.Core.Path.{◌≡◌, sym, ap, subst, ◌∙◌}
use Rattle.calls.specs.Indicators.{indicators_of}
use Rattle.calls.specs.Answers.{accepted, is_refused, yes_said, said}
use Rattle.calls.proofs.SaidLaws.{told-accepted}
use Rattle.lines.specs.Lines.{Printable}
use Rattle.settlement.specs.Settlement.{settled_by}
use Rattle.report.specs.Report.{text_as}
use Rattle.report.proofs.PrintedLaws.{printable}
use Rattle.report.proofs.AnswerLaws.{settled-yes, report-accepted, report-refused}
use Rattle.report.proofs.reporting.report_as.Goals as goal

pub print-requires : goal.print-requires
print-requires c =
    let settling = c.settle_as-settled in
    let yes : (settled_by c.args.b (indicators_of c.args.kind)).said ≡ accepted yes_said = settled-yes (indicators_of c.args.kind) c.args.b (ap is_refused (sym settling.ensures.0) ∙ told-accepted settling.result.answer c.in_default.not-Refused) in
    subst Printable (sym settling.ensures.1) (printable c.args.b c.args.kind yes)

-- refused by the settlement
pub returns-in-Refused : goal.returns-in-Refused
returns-in-Refused c =
    let refused = report-refused _ c.args.b c.args.buffer.now _ (sym c.settle_as-settled.ensures.0 ∙ ap said c.in-Refused.is) in
    record { result_value = refused.0; buffer_after = refused.1 }

-- printed, or 13
pub returns-in_default : goal.returns-in_default
unfolding text_as
returns-in_default c =
    let settling = c.settle_as-settled in
    let yes : (settled_by c.args.b (indicators_of c.args.kind)).said ≡ accepted yes_said = settled-yes (indicators_of c.args.kind) c.args.b (ap is_refused (sym settling.ensures.0) ∙ told-accepted settling.result.answer c.in_default.not-Refused) in
    let whole = report-accepted (indicators_of c.args.kind) c.args.b c.args.buffer.now yes in
    let printed = rw settling.ensures.1 at c.print.ensures in
    record { result_value = rw (← whole.0) printed.result_value; buffer_after = rw (← whole.1) printed.buffer_after }
