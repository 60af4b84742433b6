-- What reporting answers, and what it leaves in a buffer (01, "The printed settlement" and number 13).
-- Assumes nothing.
use Rattle.std.specs.Prelude.{ℕ, Bool, List, [], ◌∷◌, ◌++◌, length}
use Rattle.book.specs.declared.Book.{Book}
use Rattle.calls.specs.Answers.{Said, first_of}
use Rattle.calls.specs.Indicators.{Indicator, electricity, gas}
use Rattle.settlement.specs.Settlement.{settling_lines, settled_by}
use Rattle.text.specs.Buffer.{too_short, buffer_after}
use Rattle.lines.specs.Lines.{printed}

-- reporting a book of a kind
module _ (kind : List Indicator) where
  -- the text that its report has
  unfoldable pub text_as : Book → List ℕ
  text_as b = printed b (settled_by b kind).settlement

  -- "It refuses by 5, 10, 11, 12 or 13"
  unfoldable pub reporting_lines : Book → List ℕ → List (ℕ × Bool)
  reporting_lines b buffer = settling_lines b kind ++ ((13, too_short buffer (text_as b)) ∷ [])

  -- what it answers, the number of bytes or of the refusal, and every byte of the buffer after it
  unfoldable pub reporting_answer : Book → List ℕ → Said ℕ
  reporting_answer b buffer = first_of (reporting_lines b buffer) (length (text_as b))

  unfoldable pub reporting_buffer : Book → List ℕ → List ℕ
  reporting_buffer b buffer = buffer_after buffer (text_as b) (reporting_answer b buffer)

-- `report`
abbrev pub report_answer : Book → List ℕ → Said ℕ
report_answer = reporting_answer electricity

abbrev pub report_buffer : Book → List ℕ → List ℕ
report_buffer = reporting_buffer electricity

-- `report_gas`
abbrev pub gas_report_answer : Book → List ℕ → Said ℕ
gas_report_answer = reporting_answer gas

abbrev pub gas_report_buffer : Book → List ℕ → List ℕ
gas_report_buffer = reporting_buffer gas
