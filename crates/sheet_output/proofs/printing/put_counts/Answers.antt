-- `sheet_output::printing::put_counts` meets its contract.
-- Assumes nothing.
use native.Mathlib.Omega.{arith}
use lib.ListN.{get_or}
use Rattle.text.specs.Text.{bytes_of}
use Rattle.output.proofs.RefusalLaws.{at_front}
use Rattle.sheet_output.specs.SheetOutput.{count_line, count_lines}
use Rattle.sheet_output.proofs.CountLaws.{put_five}
use Rattle.sheet_output.proofs.printing.put_counts.Goals as goal

pub returns : goal.returns
unfolding count_lines bytes_of
returns c =
    let counts = c.args.counts in
    let one = c.put_count-second.ensures in
    let two = c.put_count-third.ensures in
    let three = c.put_count-fourth.ensures in
    let four = c.put_count-fifth.ensures in
    let five = c.put_count.ensures in
    let done =
    at_front c.args.out.now (count_lines counts)
    (put_five c.args.out.now (count_line (bytes_of "counted ") (get_or counts 0 0)) (count_line (bytes_of "short ") (get_or counts 1 0)) (count_line (bytes_of "planned ") (get_or counts 2 0)) (count_line (bytes_of "coupled ") (get_or counts 3 0)) (count_line (bytes_of "exceptional ") (get_or counts 4 0)) c.requires
    one.out_after two.out_after three.out_after four.out_after five.out_after
    (omega (arith, one.out_after.1, one.upper_bound)) (omega (arith, two.out_after.1, two.upper_bound)) (omega (arith, three.out_after.1, three.upper_bound)) (omega (arith, four.out_after.1, four.upper_bound)) (omega (arith, five.out_after.1, five.upper_bound))) in
    record { value = done.0; out_after = done.1 }
