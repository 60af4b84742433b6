-- A filing call on a book in range that is lent.
-- Assumes nothing.
use Rattle.std.specs.Prelude.{ℕ, ◌≡◌, false, List, Result, Ok, Err, IfOk}
use Rattle.calls.specs.declared.Call.{Call}
use Rattle.calls.specs.declared.Answer.{Answer}
use Rattle.calls.specs.declared.Answer.TheVariants.{Yes, Refused}
use Rattle.calls.specs.declared.Refusal.{Refusal}
use Rattle.calls.specs.Indicators.{Indicator}
use Rattle.calls.specs.Answers.{said, is_refused}
use Rattle.book.specs.declared.Book.{Book}
use Rattle.calls.specs.Call.{interruption_entries, outcome}
use Rattle.ledger.specs.Calls.{Outcome, apply}
use Rattle.ledger.specs.Steps.{entering}

-- a call on a book in the range of a kind, by value or lent: the answer, and the book afterwards
abbrev pub Leaves : List Indicator → Book → Call → Answer → Book → Type 0
Leaves kind old call answer new = (said answer ≡ (apply kind old call).said) × (new ≡ (apply kind old call).book)

-- the answer that a result stands for: refused, or what its value stands for
abbrev pub answer_as : {A : Type 0} → (A → Answer) → Result A Refusal → Answer
answer_as meaning (Ok value) = meaning value
answer_as meaning (Err refusal) = Refused refusal

-- of a call that is answered yes where nothing refuses it
abbrev pub yes_or : Result (Unit {0}) Refusal → Answer
yes_or = answer_as (λ done. Yes)

-- of a call that has an answer of its own there
abbrev pub answer_or : Result Answer Refusal → Answer
answer_or = answer_as (λ answer. answer)

-- a refusal is no answer of its own: it comes as one alone, so that what is said fixes the result
abbrev pub NoneRefused : Result Answer Refusal → Type 0
NoneRefused result = IfOk result (λ (answer : Answer). is_refused (said answer) ≡ false)

-- an interruption that nothing refuses before 8 and 9: what its outcome enters, and the outcome as its answer
abbrev pub EntersJudged : Book → ℕ → ℕ → ℕ → ℕ → ℕ → ℕ → ℕ → Answer → Book → Type 0
EntersJudged old cause operator sign level weight seconds year answer new =
    let given : Outcome = entering old (interruption_entries operator sign level weight seconds year (outcome cause seconds year)) (outcome cause seconds year) in
    (said answer ≡ given.said) × (new ≡ given.book)
