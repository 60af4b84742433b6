-- What inner functions of the calls give and ask: the lines that calls share, and entries made on a book.
-- Assumes nothing.
use Rattle.std.specs.Prelude.{ℕ, ◌≤◌, ◌<◌, ◌≡◌, Bool, not, List, [], ◌∷◌, leb, ℤ, Result}
use Rattle.calls.specs.declared.Refusal.{Refusal}
use Rattle.calls.specs.Limits.{operators, years, figure_count, weight_limit, longest}
use Rattle.calls.specs.Masks.{has}
use Rattle.calls.specs.Answers.{first_of, Acceptance}
use Rattle.calls.specs.Indicators.{some}
use Rattle.calls.specs.Call.{Entry, starts_after_end, outside_period}
use Rattle.book.specs.declared.Book.{Book}
use Rattle.book.specs.Book.{figure_of}
use Rattle.judging.specs.Results.{said_as}
use Rattle.ledger.specs.Table.{passes_limit, falls_below}
use Rattle.ledger.specs.Calls.{Outcome, enter_all, outcome_of}

-- 4, 5 and 7 of a call that names a member
unfoldable pub member_lines : ℕ → ℕ → Bool → List (ℕ × Bool)
member_lines joined operator valid = (4, leb operators operator) ∷ (5, not valid) ∷ (7, not (has joined operator)) ∷ []

-- and of an interruption, with 14 and 15 between 5 and 7
unfoldable pub interruption_lines : ℕ → ℕ → Bool → ℤ → ℤ → List (ℕ × Bool)
interruption_lines joined operator valid start end =
    (4, leb operators operator)
    ∷ (5, not valid)
    ∷ (14, starts_after_end start end)
    ∷ (15, outside_period start end)
    ∷ (7, not (has joined operator))
    ∷ []

-- an entry's values other than its u64
pub record EntryInRange (operator year figure sign : ℕ) : Type 0 where
  pub operator_known : operator < operators
  pub year_known : year < years
  pub figure_known : figure < figure_count
  pub sign_most : sign ≤ 1

-- what is known of an interruption that counts
pub record CountedInRange (operator sign level year weight seconds : ℕ) : Type 0 where
  pub operator_known : operator < operators
  pub sign_most : sign ≤ 1
  pub level_most : level ≤ 1
  pub year_known : year < years
  pub weight_most : weight ≤ weight_limit
  pub seconds_most : seconds ≤ longest

-- entries made where neither 8 nor 9 applies
unfoldable pub entering : Book → List Entry → Acceptance → Outcome
entering b list value =
    outcome_of b (enter_all b list)
    (first_of ((8, some (passes_limit (figure_of b)) list) ∷ (9, some (falls_below (figure_of b)) list) ∷ []) value)

-- entries made in a book that is lent, by a call that is answered so where nothing refuses it: what is answered, and the book as it is left
abbrev pub Enters : {A : Type 0} → Book → List Entry → Result A Refusal → Book → Type 0
Enters old list result new =
    (value : Acceptance) → (said_as (λ done. value) result ≡ (entering old list value).said) × (new ≡ (entering old list value).book)
