-- What writing a book answers, and what it leaves in a buffer (01, "The filing" and numbers 5 and 13).
-- Assumes nothing.
use Rattle.std.specs.Prelude.{ℕ, Bool, not, List, [], ◌∷◌, length}
use Rattle.book.specs.declared.Book.{Book}
use Rattle.calls.specs.Indicators.{Indicator, electricity, gas}
use Rattle.calls.specs.Answers.{Said, first_of}
use Rattle.book.specs.Book.{in_range}
use Rattle.text.specs.Buffer.{too_short, buffer_after}
use Rattle.writing.specs.Written.{written_as}

-- writing a book of a kind
module _ (kind : List Indicator) where
  -- the numbers by which writing refuses
  unfoldable pub writing_lines : Book → List ℕ → List (ℕ × Bool)
  writing_lines b buffer = (5, not (in_range kind b)) ∷ (13, too_short buffer (written_as kind b)) ∷ []

  -- what it answers, the number of bytes or of the refusal, and every byte of the buffer after it
  unfoldable pub writing_answer : Book → List ℕ → Said ℕ
  writing_answer b buffer = first_of (writing_lines b buffer) (length (written_as kind b))

  unfoldable pub writing_buffer : Book → List ℕ → List ℕ
  writing_buffer b buffer = buffer_after buffer (written_as kind b) (writing_answer b buffer)

-- `write`
abbrev pub writer_answer : Book → List ℕ → Said ℕ
writer_answer = writing_answer electricity

abbrev pub writer_buffer : Book → List ℕ → List ℕ
writer_buffer = writing_buffer electricity

-- `write_gas`
abbrev pub gas_writer_answer : Book → List ℕ → Said ℕ
gas_writer_answer = writing_answer gas

abbrev pub gas_writer_buffer : Book → List ℕ → List ℕ
gas_writer_buffer = writing_buffer gas
