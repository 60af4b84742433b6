-- The first half of demand 3, over every list of filing calls from a fresh book; and that a call keeps a book in range. Proofs:
-- proofs/Kept.antt.
-- Assumes nothing.
use Rattle.std.specs.Prelude.{ℕ, ◌≤◌, ◌≡◌, ◌↔◌, true, List}
use Rattle.book.specs.declared.Book.{Book}
use Rattle.calls.specs.declared.Call.{Call}
use Rattle.calls.specs.Indicators.{Indicator}
use Rattle.calls.specs.Held.{Same}
use Rattle.book.specs.Book.{fresh_book, held_by, in_range}
use Rattle.ledger.specs.Calls.{apply, filed_book, filed_answers}
use Rattle.history.specs.History.{History, plain, held_in, noted_history, noted_answers}

module _ (kind : List Indicator) where
  -- a call keeps any book of its kind in range, not only those that lists of calls leave
  abbrev pub StaysInRange : Book → Call → Type 0
  StaysInRange b call = in_range kind b ≡ true → in_range kind (apply kind b call).book ≡ true

  -- the book that a list of calls leaves, and the history that it makes
  abbrev pub book_of : List Call → Book
  book_of calls = filed_book kind fresh_book calls

  abbrev pub history_of : List Call → History
  history_of calls = noted_history kind plain calls

  -- for every list of calls, refused ones included
  pub record Kept (calls : List Call) : Type 0 where
    -- the answers are the history's
    pub answers : filed_answers kind fresh_book calls ≡ noted_answers kind plain calls
    -- the final book holds exactly the history's operators, settings, marks, rates, indices and totals
    pub held : Same (held_by (book_of calls)) (held_in (history_of calls))
    -- no figure has more withdrawn than filed, so that its total is their difference
    pub covered : (operator year figure : ℕ) → (history_of calls).withdrawn operator year figure ≤ (history_of calls).filed operator year figure
    -- the final book is in range, so no call was answered by the book's own 5
    pub within_range : in_range kind (book_of calls) ≡ true

  -- for every two lists the final books are equal exactly when the histories are the same
  abbrev pub EqualAsHistories : List Call → List Call → Type 0
  EqualAsHistories calls others = (book_of calls ≡ book_of others) ↔ Same (held_in (history_of calls)) (held_in (history_of others))
