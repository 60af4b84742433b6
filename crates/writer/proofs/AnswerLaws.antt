-- What writing answers and leaves, case by case; the first number in the order is given.
-- Assumes nothing.
use Prim.Native.Nat.{ℕ, ◌≤◌, ◌<◌}
use mathlib.Core.Path.{◌≡◌, refl}
use mathlib.Core.Bool.{true, false}
use mathlib.Core.List.{List}
use lib.ListN.{length}
use Rattle.book.specs.declared.Book.{Book}
use Rattle.calls.specs.Indicators.{Indicator}
use Rattle.calls.specs.Answers.{refused_by, accepted, on_answer, first_of}
use Rattle.calls.specs.Laws.{rank, place_from, stand_from, First}
use Rattle.calls.proofs.First.{first-in-order}
use Rattle.book.specs.Book.{in_range}
use Rattle.text.specs.Buffer.{put_into, buffer_after, fitting}
use Rattle.text.proofs.FittingLaws.{too_short_lem, fits}
use Rattle.writing.specs.Written.{written_as}
use Rattle.writer.specs.Writer.{writing_lines, writing_answer, writing_buffer}

module _ (kind : List Indicator) (b : Book) (buffer : List ℕ) where
  pub first-of-writing : First (writing_lines kind b buffer) (length (written_as kind b))
  unfolding rank place_from stand_from writing_lines
  first-of-writing = first-in-order (length (written_as kind b)) (writing_lines kind b buffer) refl

  pub write-out-of-range : in_range kind b ≡ false → (refused_by 5 ≡ writing_answer kind b buffer) × (buffer ≡ writing_buffer kind b buffer)
  unfolding writing_answer writing_buffer writing_lines first_of buffer_after on_answer
  write-out-of-range out = rw out (refl, refl)

  module _ (ranged : in_range kind b ≡ true) where
    pub write-too-short : length buffer < length (written_as kind b) → (refused_by 13 ≡ writing_answer kind b buffer) × (buffer ≡ writing_buffer kind b buffer)
    unfolding writing_answer writing_buffer writing_lines first_of fitting
    write-too-short short = rw ranged (too_short_lem buffer (written_as kind b) short)

    pub write-fits : length (written_as kind b) ≤ length buffer
        → (accepted (length (written_as kind b)) ≡ writing_answer kind b buffer) × (put_into buffer (written_as kind b) ≡ writing_buffer kind b buffer)
    unfolding writing_answer writing_buffer writing_lines first_of fitting
    write-fits enough = rw ranged (fits buffer (written_as kind b) enough)
