-- `report::reporting::print` meets its contract.
-- Assumes nothing.
use mathlib.Core.Path.{◌≡◌, ◌∙◌}
use native.Mathlib.Omega.{arith}
use lib.ListN.{length, take, length-take}
use Rattle.lines.specs.Lines.{printed}
use Rattle.report.proofs.PrintedLaws.{printed-length}
use Rattle.text.proofs.FittingLaws.{written-front, take-front, too_short_lem, fits}
use Rattle.report.proofs.reporting.print.Goals as goal

pub put_lines-count-requires : goal.put_lines-count-requires
put_lines-count-requires c =
    (c.requires, omega (arith, printed-length c.args.b c.args.s c.requires))

pub returns-then-buffer-count : goal.returns-then-buffer-count
returns-then-buffer-count c =
    let done = too_short_lem c.args.buffer.now (printed c.args.b c.args.s) (omega (arith, c.put_lines-count.ensures.1, c.if-buffer-count.true)) in
    record { result_value = done.0; buffer_after = done.1 }

pub slice_bounds-text-end : goal.slice_bounds-text-end
slice_bounds-text-end c =
    omega (arith, c.put_lines-count.ensures.1, c.put_lines-count.auto.out, printed-length c.args.b c.args.s c.requires)

pub slice_bounds-put_word-end : goal.slice_bounds-put_word-end
slice_bounds-put_word-end c =
    rw length-take (omega (arith, c.put_lines-count.ensures.1, c.put_lines-count.auto.out, printed-length c.args.b c.args.s c.requires))

pub put_word-requires : goal.put_word-requires
put_word-requires c =
    rw length-take (omega (arith, c.if-buffer-count.false))

pub returns : goal.returns
returns c =
    let count : c.put_lines-count.result ≡ length (printed c.args.b c.args.s) = omega (arith, c.put_lines-count.ensures.1) in
    let front : take (length (printed c.args.b c.args.s)) c.put_lines-count.new.out ≡ (printed c.args.b c.args.s) = rw c.put_lines-count.ensures.0 (take-front _ _) in
    let done = fits c.args.buffer.now (printed c.args.b c.args.s) (omega (arith, count, c.if-buffer-count.false)) in
    record { result_value = rw count done.0; buffer_after = c.put_word.ensures.0 ∙ rw (count, front) (written-front _ _) ∙ done.1 }
