-- The yearly sheet of an operator: how many interruptions counted, and how many were left out as short, planned, coupled or exceptional
-- (02, point 2).
-- Assumes nothing.
use Rattle.std.specs.Prelude.{ℕ, Bool, true, cond, not, List, [], ◌∷◌, map, leb, ltb, replicate, Result, Ok, Err}
use Rattle.calls.specs.declared.Call.TheVariants.{Amount}
use Rattle.calls.specs.Indicators.{electricity}
use Rattle.calls.specs.Limits.{operators, years, first_count, outcome_count}
use Rattle.calls.specs.declared.Refusal.{Refusal}
use Rattle.calls.specs.Answers.{Said, refused_by, accepted, on_answer, Acceptance, yes_said, number_of}
use Rattle.book.specs.declared.Book.{Book}
use Rattle.book.specs.Book.{is_joined, figure_of, in_range}
use Rattle.ledger.specs.Calls.{file}

-- counted, short, planned, coupled, exceptional
abbrev pub sheet_figures : List ℕ
sheet_figures = 8 ∷ 9 ∷ 10 ∷ 11 ∷ 12 ∷ []

-- "The sheet of an operator and year is those five figures"
unfoldable pub counts_of : Book → ℕ → ℕ → List ℕ
counts_of b operator year = map (figure_of b operator year) sheet_figures

-- "and five zeros with it"
abbrev pub no_counts : List ℕ
no_counts = replicate outcome_count 0

-- what the call for a sheet gives
pub record Sheet : Type 0 where
  pub said : Said Acceptance
  pub counts : List ℕ

-- what the code's counts say, or the refusal of them
abbrev pub sheet_told : Result (List ℕ) Refusal → Sheet
sheet_told (Ok counts) = record { said = accepted yes_said; counts = counts }
sheet_told (Err refusal) = record { said = refused_by (number_of refusal); counts = no_counts }

-- "the call for it gives 4, 5 or 7 as an amount field with that operator and year would": as one that files 0, which nothing else refuses
unfoldable pub sheet_said : Book → ℕ → ℕ → Said Acceptance
sheet_said b operator year = (file b (Amount operator year first_count 0 0)).said

unfoldable pub sheet_of : Book → ℕ → ℕ → Sheet
sheet_of b operator year =
    let answer : Said Acceptance = sheet_said b operator year in
    record { said = answer; counts = on_answer (λ (number : ℕ). no_counts) (λ (value : Acceptance). counts_of b operator year) answer }

-- the numbers that apply: a book out of range gets 5, "before any other check", then the three
unfoldable pub sheet_lines : Book → ℕ → ℕ → List (ℕ × Bool)
sheet_lines b operator year =
    cond (in_range electricity b) ((4, leb operators operator) ∷ (5, not (ltb year years)) ∷ (7, not (is_joined b operator)) ∷ []) ((5, true) ∷ [])
