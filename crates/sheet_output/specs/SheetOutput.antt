-- What the program `sheet` prints for the bytes of a filing, an operator and a year.
-- Assumes nothing.
use Rattle.std.specs.Prelude.{ℕ, List, ◌++◌, get_or}
use Rattle.calls.specs.Answers.{on_answer, Acceptance}
use Rattle.book.specs.declared.Book.{Book}
use Rattle.sheets.specs.Sheet.{sheet_of}
use Rattle.text.specs.Text.{bytes_of, decimal}
use Rattle.output.specs.Output.{refused_line, printed_of}

-- what is counted, and how many
unfoldable pub count_line : List ℕ → ℕ → List ℕ
count_line word count = word ++ decimal count ++ bytes_of "\n"

-- the five figures in their order, a line each
unfoldable pub count_lines : List ℕ → List ℕ
count_lines counts =
    count_line (bytes_of "counted ") (get_or counts 0 0)
    ++ count_line (bytes_of "short ") (get_or counts 1 0)
    ++ count_line (bytes_of "planned ") (get_or counts 2 0)
    ++ count_line (bytes_of "coupled ") (get_or counts 3 0)
    ++ count_line (bytes_of "exceptional ") (get_or counts 4 0)

-- the sheet of an operator and year, or the line of its refusal
unfoldable pub sheet_text : ℕ → ℕ → Book → List ℕ
sheet_text operator year b =
    on_answer refused_line (λ (value : Acceptance). count_lines (sheet_of b operator year).counts) (sheet_of b operator year).said

unfoldable pub sheet_output_of : ℕ → ℕ → List ℕ → List ℕ
sheet_output_of operator year filing = printed_of (sheet_text operator year) filing
