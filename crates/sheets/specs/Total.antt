-- The sheet's total of an operator, over its three years, from the calls and the history's answers alone (02, point 2).
-- Assumes nothing.
use Rattle.std.specs.Prelude.{ℕ, ◌+◌, ◌≡◌, cond, ◌&&◌, List, [], ◌∷◌, leb, eqb}
use Rattle.apportion.specs.Sum.{sum}
use Rattle.calls.specs.declared.Call.{Call}
use Rattle.calls.specs.declared.Call.TheVariants.{Join, Setting, Interruption, Amount, Mark, Rates, Index}
use Rattle.calls.specs.Indicators.{electricity}
use Rattle.calls.specs.Answers.{Said, Acceptance, on_answer}
use Rattle.book.specs.declared.Book.{Book}
use Rattle.history.specs.History.{plain, noted_answers}
use Rattle.sheets.specs.Sheet.{sheet_of}

-- a call as a number of interruptions of an operator: filed with sign 0, withdrawn with sign 1
unfoldable pub as_interruption : ℕ → ℕ → Call → ℕ
as_interruption operator sign (Join o) = 0
as_interruption operator sign (Setting o which value) = 0
as_interruption operator sign (Interruption o s level cause start end weight) = cond (eqb o operator && eqb s sign) 1 0
as_interruption operator sign (Amount o year figure s value) = 0
as_interruption operator sign (Mark o indicator mark) = 0
as_interruption operator sign (Rates pot cap) = 0
as_interruption operator sign (Index number value) = 0

-- a call as an amount on figures 8 to 12 of an operator: filed with sign 0, withdrawn with sign 1
unfoldable pub as_amount : ℕ → ℕ → Call → ℕ
as_amount operator sign (Join o) = 0
as_amount operator sign (Setting o which value) = 0
as_amount operator sign (Interruption o s level cause start end weight) = 0
as_amount operator sign (Amount o year figure s value) = cond (eqb o operator && eqb s sign && leb 8 figure && leb figure 12) value 0
as_amount operator sign (Mark o indicator mark) = 0
as_amount operator sign (Rates pot cap) = 0
as_amount operator sign (Index number value) = 0

-- such numbers of the accepted calls of a list, added up
unfoldable pub over_accepted : (Call → ℕ) → List Call → List (Said Acceptance) → ℕ
over_accepted number [] answers = 0
over_accepted number (call ∷ calls) [] = 0
over_accepted number (call ∷ calls) (answer ∷ answers) =
    on_answer (λ (refusal : ℕ). 0) (λ (value : Acceptance). number call) answer + over_accepted number calls answers

-- those that the plain history accepts
abbrev pub over_history : (Call → ℕ) → List Call → ℕ
over_history number calls = over_accepted number calls (noted_answers electricity plain calls)

-- the fifteen numbers of an operator's three sheets
unfoldable pub sheets_total : Book → ℕ → ℕ
sheets_total b operator = sum (sheet_of b operator 0).counts + sum (sheet_of b operator 1).counts + sum (sheet_of b operator 2).counts

-- "The sheet's total per operator, over its three years, is the number of accepted interruptions filed less those withdrawn, plus what
-- accepted amount fields filed there less what they withdrew": the two that are taken off stand on the other side
abbrev pub SheetsAddUp : Book → List Call → ℕ → Type 0
SheetsAddUp b calls operator =
    sheets_total b operator + (over_history (as_interruption operator 1) calls + over_history (as_amount operator 1) calls)
    ≡ over_history (as_interruption operator 0) calls + over_history (as_amount operator 0) calls
