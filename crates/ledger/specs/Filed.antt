-- A filing call by the code's own answer, and a list of them made one after the other (01, "The history").
-- Assumes nothing.
use Rattle.std.specs.Prelude.{◌≡◌, List, [], ◌∷◌}
use Rattle.calls.specs.declared.Call.{Call}
use Rattle.calls.specs.declared.Answer.{Answer}
use Rattle.calls.specs.Answers.{said}
use Rattle.calls.specs.Indicators.{Indicator, electricity, gas}
use Rattle.book.specs.declared.Book.{Book}
use Rattle.ledger.specs.Calls.{file_as}

-- what the contract of every filing call on the books of a kind says, by value or lent: the book before, the call, the answer, the book that is
-- returned or left
abbrev pub FilesAs : List Indicator → Book → Call → Answer → Book → Type 0
FilesAs kind before call answer after = (said answer ≡ (file_as kind before call).said) × (after ≡ (file_as kind before call).book)

abbrev pub Files : Book → Call → Answer → Book → Type 0
Files = FilesAs electricity

abbrev pub FilesGas : Book → Call → Answer → Book → Type 0
FilesGas = FilesAs gas

-- calls on a book, with an answer for each and the last book: "Each call gets the book that the one before it returned or left"
abbrev pub FiledInTurn : List Indicator → Book → List Call → List Answer → Book → Type 0
FiledInTurn kind b [] [] last = last ≡ b
FiledInTurn kind b [] (answer ∷ answers) last = ⊥
FiledInTurn kind b (call ∷ calls) [] last = ⊥
FiledInTurn kind b (call ∷ calls) (answer ∷ answers) last = (next : Book) × FilesAs kind b call answer next × FiledInTurn kind next calls answers last
