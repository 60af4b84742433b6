-- No more bytes are printed than were put, and what goes to standard error is text.
-- Assumes nothing.
use Rattle.std.proofs.Common.{◌≡◌, ◌≤◌, length, ap, arith, length-take}
use Rattle.calls.specs.Indicators.{indicators_of}
use Rattle.writing.proofs.WrittenLaws.{most-of-kind}
use Rattle.output.proofs.RefusalLaws.{front-within}
use Rattle.rewriting.specs.Rewriting.{printout_as}
use Rattle.writing_out.proofs.ToldLaws.{told-text, read-ok}
use Rattle.writing_out.proofs.print_rewritten.Goals as goal

pub rewritten_as-printed-requires : goal.rewritten_as-printed-requires
rewritten_as-printed-requires g c = (omega arith, omega (arith, most-of-kind c.args.kind))

pub slice_bounds-text-end : goal.slice_bounds-text-end
slice_bounds-text-end g c =
    let made = c.rewritten_as-printed in
    let count : made.result.count ≡ length (printout_as (indicators_of c.args.kind) c.args.filing.now).text = ap (λ told. told.1) made.ensures.count_value in
    rw (count, made.ensures.out_after) (front-within _ _)

pub slice_bounds-bytes-end : goal.slice_bounds-bytes-end
slice_bounds-bytes-end g c =
    let made = c.rewritten_as-printed in
    let count : made.result.count ≡ length (printout_as (indicators_of c.args.kind) c.args.filing.now).text = ap (λ told. told.1) made.ensures.count_value in
    let within : made.result.count ≤ length made.new.out = rw (count, made.ensures.out_after) (front-within _ _) in
    omega (arith, length-take made.result.count made.new.out)

pub unwrap-requires : goal.unwrap-requires
unwrap-requires g c =
    let made = c.rewritten_as-printed in
    let text = told-text (indicators_of c.args.kind) c.args.filing.now _ made.new.out made.result.stream made.result.count made.ensures.count_value made.ensures.out_after c.in-Error.is in
    read-ok c.from_utf8.result _ _ _ c.from_utf8.ensures.cases text
