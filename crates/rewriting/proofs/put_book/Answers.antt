-- `rewriting::put_book` meets its contract.
-- Assumes nothing.
use mathlib.Core.Path.{refl, sym, ◌∙◌}
use lib.ListN.{length}
use Rattle.std.specs.Prelude.{Ok}
use Rattle.calls.specs.Indicators.{indicators_of}
use Rattle.text.proofs.FittingLaws.{fillings-apart}
use Rattle.writing.specs.Written.{written_as}
use Rattle.writer.proofs.AnswerLaws.{write-fits}
use Rattle.rewriting.proofs.put_book.Goals as goal

-- what the writer says is the number of bytes
pub returns : goal.returns
returns c =
    let kind = indicators_of c.args.kind in
    let wrote = c.write_as in
    let whole = write-fits kind c.args.b c.args.out.now c.requires.0 c.requires.1 in
    let counted = fillings-apart wrote.result (Ok (length (written_as kind c.args.b))) (wrote.ensures.result_value ∙ sym whole.0) in
    record { value = c.unwrap_or.ensures ∙ rw counted refl; out_after = wrote.ensures.buffer_after ∙ sym whole.1 }
