-- `output::put_settlement` meets its contract.
-- Assumes nothing.
use mathlib.Core.Path.{◌≡◌, sym, ap, subst, ◌∙◌}
use lib.ListN.{length}
use Rattle.calls.specs.Indicators.{indicators_of}
use Rattle.text.specs.Buffer.{put_into}
use Rattle.text.specs.Buffer.{filled_said}
use Rattle.output.specs.Output.{refused_line, settlement_text_as}
use Rattle.output.proofs.SettlementLaws.{Told, told}
use Rattle.output.proofs.put_settlement.Goals as goal

pub returns-in-Ok : goal.returns-in-Ok
returns-in-Ok c =
    let old = c.args.out.now in
    let printed = c.report_as.ensures in
    let whole = subst (Told c.args.kind c.args.b old) (sym printed.result_value ∙ ap filled_said c.in-Ok.is) (told c.args.kind c.args.b old c.requires) in
    record { value = whole.0; out_after = printed.buffer_after ∙ whole.1 }

pub returns-in-Err : goal.returns-in-Err
returns-in-Err c =
    let old = c.args.out.now in
    let printed = c.report_as.ensures in
    let line = c.put_refused_line.ensures in
    let whole = subst (Told c.args.kind c.args.b old) (sym printed.result_value ∙ ap filled_said c.in-Err.is) (told c.args.kind c.args.b old c.requires) in
    let number = c.number_of in
    let text : refused_line number.result ≡ settlement_text_as (indicators_of c.args.kind) c.args.b = ap refused_line number.ensures ∙ whole.0 in
    record { value = line.value ∙ ap length text; out_after = line.out_after ∙ (λ i. put_into ((printed.buffer_after ∙ whole.1) i) (text i)) }
