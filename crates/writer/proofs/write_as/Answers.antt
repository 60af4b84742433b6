-- `writer::write_as` meets its contract.
-- Assumes nothing.
use mathlib.Core.Path.{sym, ◌∙◌}
use native.Mathlib.Omega.{arith}
use Rattle.writer.proofs.AnswerLaws.{write-out-of-range, write-too-short, write-fits}
use Rattle.writer.proofs.write_as.Goals as goal

-- refused by 5
pub returns-then-not-in_range : goal.returns-then-not-in_range
returns-then-not-in_range c =
    let leaves = write-out-of-range _ c.args.b c.args.buffer.now (sym c.in_range.ensures ∙ c.if-not-in_range.true) in
    record { result_value = leaves.0; buffer_after = leaves.1 }

-- refused by 13
pub returns-then-buffer-size : goal.returns-then-buffer-size
returns-then-buffer-size c =
    let leaves = write-too-short _ c.args.b c.args.buffer.now (sym c.in_range.ensures ∙ c.if-not-in_range.false) (omega (arith, c.written_size-size.ensures)) in
    record { result_value = leaves.0; buffer_after = leaves.1 }

-- written
pub returns : goal.returns
returns c =
    let size = c.written_size-size.ensures in
    let whole = write-fits _ c.args.b c.args.buffer.now (sym c.in_range.ensures ∙ c.if-not-in_range.false) (omega (arith, size, c.if-buffer-size.false)) in
    record { result_value = rw size whole.0; buffer_after = c.put_entries.ensures ∙ whole.1 }
