-- Demand 1: which number each call answers, exactly when, and what it leaves (01, "Answers other than yes"). Its value is `demand-1` of
-- proofs/Demand1Holds.antt. The contracts of the calls say that the code answers and leaves what is defined here; every call ends, since
-- the prover takes no other.
-- Assumes nothing.
use Rattle.std.specs.Prelude.{ℕ, ◌≤◌, ◌<◌, ◌≡◌, ◌↔◌, Bool, true, false, cond, List, [], ◌∷◌, length}
use Rattle.calls.specs.declared.Call.{Call}
use Rattle.calls.specs.declared.Call.TheVariants.{Amount}
use Rattle.calls.specs.declared.Answer.{Answer}
use Rattle.calls.specs.Limits.{figure_count}
use Rattle.calls.specs.Indicators.{Indicator, electricity, gas}
use Rattle.calls.specs.Answers.{Said, refused_by, accepted, yes_said, said}
use Rattle.calls.specs.Call.{facts_of}
use Rattle.calls.specs.Laws.{rank, Ranked, applies, IsFirst, First}
use Rattle.book.specs.declared.Book.{Book}
use Rattle.book.specs.Book.{is_joined, figure_of, in_range}
use Rattle.ledger.specs.Table.{lines_for}
use Rattle.ledger.specs.Calls.{changed, file_as}
use Rattle.ledger.specs.Filed.{FilesAs}
use Rattle.fields.specs.Field.{field_lines, call_at}
use Rattle.fields.specs.Laws.{FieldAnswered}
use Rattle.filing.specs.Reader.{reading, read_as}
use Rattle.filing.specs.Laws.{ReadAsCallsIfInRange}
use Rattle.settlement.specs.Settlement.{settling_lines, nothing, settlement_by, settled_by}
use Rattle.sheets.specs.Sheet.{counts_of, no_counts, sheet_of, sheet_lines}
use Rattle.text.specs.Buffer.{put_into}
use Rattle.report.specs.Report.{text_as, reporting_lines, reporting_answer, reporting_buffer}
use Rattle.writing.specs.Written.{written_as}
use Rattle.writer.specs.Writer.{writing_lines, writing_answer, writing_buffer}

-- a call whose refusals are lines of a table: what it said, and what it left where `before` stood
pub record Judged {A S : Type 0} (lines : List (ℕ × Bool)) (value : A) (said : Said A) (left before after : S) : Type 0 where
  -- refused by a number exactly when that number applies and none before it in the order does
  pub number : (n : ℕ) → (said ≡ refused_by n) ↔ IsFirst lines n
  -- not refused exactly when none applies
  pub answered : (said ≡ accepted value) ↔ ((n : ℕ) → applies lines n ≡ false)
  -- a refusal leaves what there was; "on every other input the call does its work"
  pub kept : (n : ℕ) → said ≡ refused_by n → left ≡ before
  pub done : ((n : ℕ) → applies lines n ≡ false) → left ≡ after

-- the calls on books of a kind, which is a list of indicators
module _ (kind : List Indicator) where
  -- a book out of range "gets 5 from every call, before any other check"; else the table of 2, 4 to 9, 14 and 15
  unfoldable pub call_lines : Book → Call → List (ℕ × Bool)
  call_lines b call = cond (in_range kind b) (lines_for kind (is_joined b) (figure_of b) call) ((5, true) ∷ [])

  pub record Demand1Of : Type 0 where
    -- the filing calls, by value or lent: `FilesAs` is the contract of each; "A refused filing call leaves the book"
    pub filing : (b : Book) (call : Call) (answer : Answer) (after : Book) → FilesAs kind b call answer after
        → Judged (call_lines b call) (facts_of kind call).answer (said answer) after b (changed kind b call)
    -- the same of what is defined
    pub filing_defined : (b : Book) (call : Call)
        → Judged (call_lines b call) (facts_of kind call).answer (file_as kind b call).said (file_as kind b call).book b (changed kind b call)
    -- the table that the history looks up too, with whatever it holds
    pub table : (joined : ℕ → Bool) (total : ℕ → ℕ → ℕ → ℕ) (call : Call) → First (lines_for kind joined total call) (facts_of kind call).answer
    -- what stands at an offset, by `field_in`: 1, 2 or 3, the end, or a call, each both ways
    pub field : (bytes : List ℕ) (at : ℕ) → FieldAnswered kind bytes at
    -- its table for itself
    pub field_table : (bytes : List ℕ) (at : ℕ) → First (field_lines kind bytes at) (call_at bytes at)
    -- reading files the calls of the fields in order, "up to the first refusal, keeps those before it"
    pub reads : (b : Book) (bytes : List ℕ) → ReadAsCallsIfInRange kind b bytes
    -- "(the reader: none applied, offset 0)"
    pub reads_out_of_range : (b : Book) (bytes : List ℕ) → in_range kind b ≡ false → read_as kind b bytes ≡ reading b 0 0 (refused_by 5)
    -- settling, by `settle` and `settle_gas`; its settlement "is all 0 on refusal"
    pub settles : (b : Book)
        → Judged (settling_lines b kind) yes_said (settled_by b kind).said (settled_by b kind).settlement nothing (settlement_by b kind)
    -- "a refused writer or report leaves the buffer. Accepted, these two answer with the number of bytes written and leave all bytes after
    -- their output"
    pub writes : (b : Book) (buffer : List ℕ)
        → Judged (writing_lines kind b buffer) (length (written_as kind b)) (writing_answer kind b buffer) (writing_buffer kind b buffer) buffer
        (put_into buffer (written_as kind b))
    pub reports : (b : Book) (buffer : List ℕ)
        → Judged (reporting_lines kind b buffer) (length (text_as kind b)) (reporting_answer kind b buffer) (reporting_buffer kind b buffer) buffer
        (put_into buffer (text_as kind b))

pub record Demand1 : Type 0 where
  -- the order in which the numbers are looked at has every refusal's (02, point 8)
  pub order : Ranked
  -- of the two kinds,
  pub of_electricity : Demand1Of electricity
  pub of_gas : Demand1Of gas
  -- and over any list of indicators
  pub by_list : (kind : List Indicator) → Demand1Of kind
  -- the sheet of an operator and year, by `sheet` (02, point 2), which gas has not; "and five zeros with it"
  pub sheets : (b : Book) (operator year : ℕ)
      → Judged (sheet_lines b operator year) yes_said (sheet_of b operator year).said (sheet_of b operator year).counts no_counts (counts_of b operator year)
  -- "4, 5 or 7 as an amount field with that operator and year would", whatever else that field says within its range
  pub sheets_as_amounts : (b : Book) (operator year figure sign value : ℕ) → figure < figure_count → sign ≤ 1 → (n : ℕ) → rank n ≤ rank 7
      → applies (sheet_lines b operator year) n ≡ applies (call_lines electricity b (Amount operator year figure sign value)) n
