-- What the program prints for the bytes of a filing (01, "The printed settlement").
-- Assumes nothing.
use Rattle.std.specs.Prelude.{ℕ, cond, List, ◌++◌, ltb, length}
use Rattle.book.specs.declared.Book.{Book}
use Rattle.calls.specs.Indicators.{Indicator, electricity, gas}
use Rattle.calls.specs.Answers.{on_answer, Acceptance}
use Rattle.book.specs.Book.{fresh_book}
use Rattle.settlement.specs.Settlement.{settled_by}
use Rattle.filing.specs.Reader.{Reached, read_as}
use Rattle.text.specs.Text.{bytes_of, decimal}
use Rattle.report.specs.Report.{text_as}

unfoldable pub refused_by_number : ℕ → List ℕ
refused_by_number number = bytes_of "refused " ++ decimal number

-- without a place: "a refused settlement `refused 10`"
unfoldable pub refused_line : ℕ → List ℕ
refused_line number = refused_by_number number ++ bytes_of "\n"

-- "A refused field prints `refused 4 at 0` (number, offset)"
unfoldable pub refused_field : ℕ → ℕ → List ℕ
refused_field number offset = refused_by_number number ++ bytes_of " at " ++ decimal offset ++ bytes_of "\n"

-- a filing that was read: the first field refused, or what is printed of the book
unfoldable pub reading_text : (Book → List ℕ) → Reached → List ℕ
reading_text text r = on_answer (λ (number : ℕ). refused_field number r.offset) (λ (value : Acceptance). text r.book) r.said

-- of books of a kind
module _ (kind : List Indicator) where
  -- the printed settlement of a book, or its refusal
  unfoldable pub settlement_text_as : Book → List ℕ
  settlement_text_as b = on_answer refused_line (λ (value : Acceptance). text_as kind b) (settled_by b kind).said

  -- what a program prints that reads a filing into a fresh book; "at most 65,536 bytes (a longer file prints `too long` ..)"
  unfoldable pub printed_as : (Book → List ℕ) → List ℕ → List ℕ
  printed_as text filing = cond (ltb 65536 (length filing)) (bytes_of "too long\n") (reading_text text (read_as kind fresh_book filing))

  -- what the program prints that settles
  unfoldable pub output_as : List ℕ → List ℕ
  output_as filing = printed_as settlement_text_as filing

-- a filing is electricity's where gas is not named
abbrev pub printed_of : (Book → List ℕ) → List ℕ → List ℕ
printed_of = printed_as electricity

abbrev pub output_of : List ℕ → List ℕ
output_of = output_as electricity

abbrev pub gas_output_of : List ℕ → List ℕ
gas_output_of = output_as gas
