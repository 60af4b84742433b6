-- The lines of a sheet fit the buffer, and are put there one after the other; and when they are what is printed.
-- Assumes nothing.
use Prim.Native.Nat.{ℕ, ◌+◌, ◌^◌, ◌≤◌, ◌<◌}
use mathlib.Core.Path.{◌≡◌, refl, sym}
use mathlib.Core.Bool.{false}
use mathlib.Core.List.{List, ◌++◌}
use native.Mathlib.Omega.{arith}
use lib.ListN.{length, length-append}
use Rattle.calls.specs.Answers.{refused_by, on_answer, is_refused}
use Rattle.calls.proofs.SaidLaws.{otherwise-given}
use Rattle.book.specs.declared.Book.{Book}
use Rattle.sheets.specs.Sheet.{sheet_of}
use Rattle.text.specs.Text.{bytes_of, decimal}
use Rattle.text.proofs.WrittenLaws.{Put, room-first, put_then, put_three}
use Rattle.output.specs.Output.{refused_line}
use Rattle.output.proofs.RefusalLaws.{digits-few}
use Rattle.sheet_output.specs.SheetOutput.{count_line, count_lines, sheet_text}

-- a line has at most twenty digits and its end beside the word
pub line-length : (word : List ℕ) (count : ℕ) → count < 2 ^ 64 → length (count_line word count) ≤ length word + 21
unfolding count_line bytes_of
line-length word count small =
    omega (arith, digits-few count small, length-append (word ++ decimal count) (bytes_of "\n"), length-append word (decimal count))

-- five texts one after the other, none longer than a line
pub put_five : (old a b c d e : List ℕ) {first second third fourth new : List ℕ} {two three four five after : ℕ} → 2048 ≤ length old
    → Put old 0 a first two → Put first two b second three → Put second three c third four → Put third four d fourth five → Put fourth five e new after
    → length a ≤ 33 → length b ≤ 33 → length c ≤ 33 → length d ≤ 33 → length e ≤ 33
    → Put old 0 (a ++ b ++ c ++ d ++ e) new after
put_five old a b c d e long pa pb pc pd pe la lb lc ld le =
    let lengths : length (a ++ b ++ c ++ d ++ e) ≤ 165 = omega (
      arith,
      length-append (a ++ b ++ c ++ d) e,
      length-append (a ++ b ++ c) d,
      length-append (a ++ b) c,
      length-append a b,
    ) in
    let room : 0 + length (a ++ b ++ c ++ d ++ e) ≤ length old = omega (arith, lengths, long) in
    let room-four : 0 + length (a ++ b ++ c ++ d) ≤ length old = room-first old 0 (a ++ b ++ c ++ d) e room in
    let room-three : 0 + length (a ++ b ++ c) ≤ length old = room-first old 0 (a ++ b ++ c) d room-four in
    put_then old 0 (a ++ b ++ c ++ d) e room (put_then old 0 (a ++ b ++ c) d room-four (put_three old 0 a b c room-three pa pb pc) pd) pe

-- the text of a sheet, by its answer
module _ (operator year : ℕ) (b : Book) where
  pub sheet-refused : (number : ℕ) → (sheet_of b operator year).said ≡ refused_by number → refused_line number ≡ sheet_text operator year b
  unfolding sheet_text on_answer
  sheet-refused number refused = rw refused refl

  pub sheet-given : is_refused (sheet_of b operator year).said ≡ false → count_lines (sheet_of b operator year).counts ≡ sheet_text operator year b
  unfolding sheet_text
  sheet-given fine = sym (otherwise-given refused_line (count_lines (sheet_of b operator year).counts) (sheet_of b operator year).said fine)
