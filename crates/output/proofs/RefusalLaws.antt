-- The lines of a refusal are short, and they are put together one part after the other.
-- Assumes nothing.
use Prim.Native.Nat.{ℕ, ◌+◌, ◌^◌, ◌≤◌, ◌<◌}
use mathlib.Core.Path.{◌≡◌, ◌∙◌}
use mathlib.Core.List.{List, ◌++◌}
use native.Mathlib.Omega.{arith}
use lib.ListN.{length, drop, length-append}
use Rattle.text.specs.Text.{bytes_of, decimal}
use Rattle.text.specs.Buffer.{put_into}
use Rattle.text.proofs.DigitLaws.{decimal-length}
use Rattle.text.proofs.WrittenLaws.{Put}
use Rattle.text.proofs.FittingLaws.{written-front}
use Rattle.output.specs.Output.{refused_by_number, refused_line, refused_field}

-- a number of 64 bits has at most twenty digits
pub digits-few : (n : ℕ) → n < 2 ^ 64 → length (decimal n) ≤ 20
digits-few n small = decimal-length 19 n (omega arith)

module _ (number : ℕ) (small : number < 2 ^ 64) where
  pub by_length : length (refused_by_number number) ≤ 28
  unfolding refused_by_number bytes_of
  by_length = omega (arith, length-append (bytes_of "refused ") (decimal number), digits-few number small)

  pub line-length : length (refused_line number) ≤ 29
  unfolding refused_line bytes_of
  line-length = omega (arith, length-append (refused_by_number number) (bytes_of "\n"), by_length)

  pub field-length : (offset : ℕ) → offset < 2 ^ 64 → length (refused_field number offset) ≤ 53
  unfolding refused_field bytes_of
  field-length offset within =
      omega (
        arith,
        length-append (refused_by_number number ++ bytes_of " at " ++ decimal offset) (bytes_of "\n"),
        length-append (refused_by_number number ++ bytes_of " at ") (decimal offset),
        length-append (refused_by_number number) (bytes_of " at "),
        by_length,
        digits-few offset within,
      )

-- all of them fit a buffer of 2048 bytes
pub room : (old text : List ℕ) (most : ℕ) → 2048 ≤ length old → length text ≤ most → most ≤ 2048 → 0 + length text ≤ length old
room old text most long short few = omega arith

-- a text put at the front of a buffer, and how long it is
pub at_front : (old text : List ℕ) {new : List ℕ} {after : ℕ} → Put old 0 text new after → (after ≡ length text) × (new ≡ put_into old text)
at_front old text put = (omega (arith, put.1), put.0 ∙ written-front old text)

-- a text at the front of a buffer is no longer than the buffer then is
pub front-within : (old text : List ℕ) → length text ≤ length (put_into old text)
unfolding put_into
front-within old text = omega (arith, length-append text (drop (length text) old))
