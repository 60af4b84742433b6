-- `sheet_output::printing::put_count` meets its contract.
-- Assumes nothing.
use Rattle.std.proofs.Common.{List, ℕ, ◌+◌, ◌^◌, ◌<◌, ◌≤◌}
use native.Mathlib.Omega.{arith}
use lib.ListN.{length}
use Rattle.text.specs.Text.{bytes_of, decimal}
use Rattle.text.proofs.WrittenLaws.{three-second, three_third, put_three}
use Rattle.sheet_output.specs.SheetOutput.{count_line}
use Rattle.sheet_output.proofs.CountLaws.{line-length}
use Rattle.sheet_output.proofs.printing.put_count.Goals as goal

-- a line has at most twenty digits and the end beside its word
short : (word : List ℕ) (count : ℕ) → count < 2 ^ 64 → length (count_line word count) ≤ length word + 21
short word count small = line-length word count small

room : (out word : List ℕ) (at count : ℕ) → count < 2 ^ 64 → at + (length word + 21) ≤ length out → at + length (count_line word count) ≤ length out
room out word at count small fits = omega (arith, short word count small, fits)

pub put_decimal-end-requires : goal.put_decimal-end-requires
unfolding count_line bytes_of
put_decimal-end-requires c =
    three-second c.args.out.now c.args.at c.args.word.now (decimal c.args.count) (bytes_of "\n") (room c.args.out.now c.args.word.now c.args.at c.args.count (omega arith) (omega (arith, c.requires))) c.put_word-digits.ensures

pub put_word-requires : goal.put_word-requires
unfolding count_line bytes_of
put_word-requires c =
    three_third c.args.out.now c.args.at c.args.word.now (decimal c.args.count) (bytes_of "\n") (room c.args.out.now c.args.word.now c.args.at c.args.count (omega arith) (omega (arith, c.requires))) c.put_word-digits.ensures c.put_decimal-end.ensures

pub returns : goal.returns
unfolding count_line bytes_of
returns c =
    let line = put_three c.args.out.now c.args.at c.args.word.now (decimal c.args.count) (bytes_of "\n") (room c.args.out.now c.args.word.now c.args.at c.args.count (omega arith) (omega (arith, c.requires))) c.put_word-digits.ensures c.put_decimal-end.ensures c.put_word.ensures in
    record { out_after = line; upper_bound = omega (arith, line.1, short c.args.word.now c.args.count (omega arith)) }
