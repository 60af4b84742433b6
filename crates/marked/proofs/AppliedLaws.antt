-- Calls filed from a book in range are applied one by one: what a list of calls leaves, and is answered, is computed without the range's test at
-- each.
-- Assumes nothing.
use mathlib.Core.Path.{◌≡◌, refl, ap}
use mathlib.Core.Bool.{true}
use mathlib.Core.List.{List, [], ◌∷◌}
use Rattle.calls.specs.declared.Call.{Call}
use Rattle.calls.specs.Indicators.{Indicator}
use Rattle.calls.specs.Answers.{Said, Acceptance}
use Rattle.book.specs.declared.Book.{Book}
use Rattle.book.specs.Book.{fresh_book, in_range}
use Rattle.ledger.specs.Calls.{apply, filed_book, filed_answers}
use Rattle.history.specs.Demand.{book_of}
use Rattle.history.proofs.Kept.{stays, filed-applied, fresh-in-range}

unfoldable pub applied_from : List Indicator → Book → List Call → Book
applied_from kind b [] = b
applied_from kind b (call ∷ rest) = applied_from kind (apply kind b call).book rest

pub filed-from : (kind : List Indicator) (calls : List Call) (b : Book) → in_range kind b ≡ true → filed_book kind b calls ≡ applied_from kind b calls
unfolding filed_book applied_from
filed-from kind [] b ranged = refl
filed-from kind (call ∷ rest) b ranged = rw (filed-applied kind b call ranged) (filed-from kind rest (apply kind b call).book (stays kind b call ranged))

pub book-of : (kind : List Indicator) (calls : List Call) → book_of kind calls ≡ applied_from kind fresh_book calls
book-of kind calls = filed-from kind calls fresh_book (fresh-in-range kind)

unfoldable pub answers_from : List Indicator → Book → List Call → List (Said Acceptance)
answers_from kind b [] = []
answers_from kind b (call ∷ rest) = (apply kind b call).said ∷ answers_from kind (apply kind b call).book rest

answered-from : (kind : List Indicator) (calls : List Call) (b : Book) → in_range kind b ≡ true → filed_answers kind b calls ≡ answers_from kind b calls
unfolding filed_answers answers_from
answered-from kind [] b ranged = refl
answered-from kind (call ∷ rest) b ranged = rw (filed-applied kind b call ranged) (ap (λ (later : List (Said Acceptance)). (apply kind b call).said ∷ later) (answered-from kind rest (apply kind b call).book (stays kind b call ranged)))

pub answers_of : (kind : List Indicator) (calls : List Call) → filed_answers kind fresh_book calls ≡ answers_from kind fresh_book calls
answers_of kind calls = answered-from kind calls fresh_book (fresh-in-range kind)
