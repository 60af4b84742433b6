-- Demand 3 (01, "The history"): one claim about every list of filing calls from a fresh book, about every two lists, and about settling, of
-- electricity and of gas beside each other, and over any list of indicators (02, point 4: "All statements about sums and equal books are
-- proved over a list of indicators, of which electricity and gas are two instances"). Its value is `demand-3` of proofs/Demand3Holds.antt.
--
-- To be read in this order:
--   1. crates/calls/specs/Answers.antt: `said`, what an answer of the code says by 01's numbers and values
--   2. crates/calls/specs/Indicators.antt: `electricity` and `gas`, and what a list of indicators takes
--   3. crates/calls/specs/Call.antt: `facts_of`, what is to be known of a call; crates/ledger/specs/Table.antt: `answer_to`, the table of answers
--   4. crates/history/specs/History.antt: the plain history, `plain`, `noted_answers`, `noted_history`; nothing there knows of a book
--   5. crates/calls/specs/Held.antt: `Same`; crates/book/specs/Book.antt: `fresh_book`, `in_range`, and what a book holds, `held_by`
--   6. crates/ledger/specs/Calls.antt: `file_as`, what a call does to a book, and a list of them, `filed_book` and `filed_answers`
--   7. crates/ledger/specs/Filed.antt: `Files` and `FilesGas`, which the contract of each filing call says, by value (crates/bookkeeping/src/by_value.rt,
--      gas.rt) and with the book lent (crates/lent/src/lending.rt, gas.rt, held.rt); so a run of calls in turn, `FiledInTurn`, may mix them
--   8. crates/history/specs/Demand.antt: `book_of` and `history_of` of a list
--   9. crates/sheets/specs/Sheet.antt: `sheet_of`, the contract of `sheet`; crates/sheets/specs/Total.antt: `SheetsAddUp`, which counts and adds
--      from the calls and the history's answers alone
--  10. crates/writing/specs/Written.antt: `written_as`; crates/writer/specs/Writer.antt: what writing answers and puts into a buffer
--  11. crates/readiness/specs/Readiness.antt: 11 and 12; crates/settlement/specs/Settlement.antt: `settled_by`, the contract of `settle` and
--      `settle_gas`; crates/settlement/specs/Laws.antt: `Settles`, `Balanced`
-- Assumes nothing.
use Rattle.std.specs.Prelude.{ℕ, ◌≤◌, ◌<◌, ◌≡◌, ◌↔◌, true, List, map, take}
use Rattle.calls.specs.declared.Call.{Call}
use Rattle.calls.specs.declared.Answer.{Answer}
use Rattle.calls.specs.Limits.{operators, years, first_count}
use Rattle.calls.specs.Indicators.{Indicator, electricity, gas}
use Rattle.calls.specs.Answers.{accepted, yes_said, said}
use Rattle.calls.specs.Held.{Same}
use Rattle.book.specs.declared.Book.{Book}
use Rattle.book.specs.Book.{with_figures, fresh_book, figure_of, held_by, in_range}
use Rattle.ledger.specs.Calls.{filed_answers}
use Rattle.ledger.specs.Filed.{FiledInTurn}
use Rattle.history.specs.History.{plain, held_in, noted_answers}
use Rattle.history.specs.Demand.{book_of, history_of}
use Rattle.sheets.specs.Total.{SheetsAddUp}
use Rattle.settlement.specs.Settlement.{settled_by, settled}
use Rattle.settlement.specs.Laws.{Worth, Settles, Balanced}
use Rattle.writing.specs.Written.{written_as}
use Rattle.writer.specs.Writer.{writing_answer, writing_buffer}

-- books, histories and written filings of one kind, which is a list of indicators
module _ (kind : List Indicator) where
  -- a run of the code on a list of calls, refused ones among them, from a fresh book: its answers in turn, and its last book
  pub record CodeRun (calls : List Call) : Type 0 where
    pub answers : List Answer
    pub last : Book
    pub as_taken_in_turn : FiledInTurn kind fresh_book calls answers last

  pub record OneList (calls : List Call) : Type 0 where
    -- each call's answer, by 01's numbers and values, is the one that the plain history gives
    pub answers : (run : CodeRun calls) → map said run.answers ≡ noted_answers kind plain calls
    -- the final book holds exactly the history's operators, its latest settings, marks, rates and indices, and its totals;
    pub held : (run : CodeRun calls) → Same (held_by run.last) (held_in (history_of kind calls))
    -- a total is filed less withdrawn, and never is more withdrawn than filed
    pub covered : (operator year figure : ℕ) → (history_of kind calls).withdrawn operator year figure ≤ (history_of kind calls).filed operator year figure
    -- 5 never applies to the book of a list: it is in range
    pub within_range : (run : CodeRun calls) → in_range kind run.last ≡ true
    -- a list has a run; its last book is the defined one, so the rest may be said of `book_of` as well
    pub has_run : CodeRun calls
    pub last_defined : (run : CodeRun calls) → run.last ≡ book_of kind calls
    pub answers_defined : filed_answers kind fresh_book calls ≡ noted_answers kind plain calls
    pub held_defined : Same (held_by (book_of kind calls)) (held_in (history_of kind calls))
    pub in_range_defined : in_range kind (book_of kind calls) ≡ true

  pub record TwoLists (calls others : List Call) : Type 0 where
    -- the books are equal exactly when the histories are the same,
    pub equal_as_histories : (run : CodeRun calls) (other : CodeRun others)
        → (run.last ≡ other.last) ↔ Same (held_in (history_of kind calls)) (held_in (history_of kind others))
    -- and exactly when the two written filings are the same bytes;
    pub equal_as_filings : (run : CodeRun calls) (other : CodeRun others)
        → (run.last ≡ other.last) ↔ (written_as kind run.last ≡ written_as kind other.last)
    -- "A book's written filing is the run of bytes that the writer puts out for it in any buffer it accepts"
    pub put_out : (b : Book) (buffer : List ℕ) (count : ℕ) → writing_answer kind b buffer ≡ accepted count
        → take count (writing_buffer kind b buffer) ≡ written_as kind b
    -- the same of the defined books
    pub histories_defined : (book_of kind calls ≡ book_of kind others) ↔ Same (held_in (history_of kind calls)) (held_in (history_of kind others))
    pub filings_defined : (book_of kind calls ≡ book_of kind others) ↔ (written_as kind (book_of kind calls) ≡ written_as kind (book_of kind others))

  -- any book, so that of a list too
  pub record SettlingBook (b : Book) : Type 0 where
    -- equal books get the same settlement or the same refusal
    pub alike : (other : Book) → b ≡ other → settled_by b kind ≡ settled_by other kind
    -- a book settles exactly when none of 5, 10, 11 and 12 applies to it,
    pub exactly : Settles b kind ↔ ((settled_by b kind).said ≡ accepted yes_said)
    -- and then each indicator's points add up to its pool, contributions and returns to the pot, adjustments to 0, and none passes its limit, if
    -- the indicators are worth points
    pub balanced : Worth kind → Settles b kind → Balanced b (settled_by b kind).settlement

  pub record Demand3Of : Type 0 where
    pub one_list : (calls : List Call) → OneList calls
    pub two_lists : (calls others : List Call) → TwoLists calls others
    pub settling : (b : Book) → SettlingBook b

-- two books have the same in figures 0 to 7
abbrev pub SameMeasures : Book → Book → Type 0
SameMeasures b other =
    (operator year figure : ℕ) → operator < operators → year < years → figure < first_count → figure_of other operator year figure ≡ figure_of b operator year figure

pub record Demand3 : Type 0 where
  -- of the two kinds, whose indicators are worth points,
  pub of_electricity : Demand3Of electricity
  pub electricity_worth : Worth electricity
  pub of_gas : Demand3Of gas
  pub gas_worth : Worth gas
  -- and over any list of indicators
  pub by_list : (kind : List Indicator) → Demand3Of kind
  -- electricity alone has interruptions. For each operator the fifteen numbers of its three sheets are the accepted interruptions filed less
  -- those withdrawn, plus what accepted amounts filed there less what they withdrew (02, point 2)
  pub sheets : (calls : List Call) (run : CodeRun electricity calls) (operator : ℕ) → operator < operators → SheetsAddUp run.last calls operator
  -- settling reads figures 0 to 7 and none of the counts (02, point 2): whatever stands in these, if both books are in range or neither is,
  -- they settle the same
  pub counts_aside : (b : Book) (figures : List ℕ) → in_range electricity (with_figures b figures) ≡ in_range electricity b
      → SameMeasures b (with_figures b figures) → settled (with_figures b figures) ≡ settled b
