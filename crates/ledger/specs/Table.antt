-- The table of answers, numbers 2, 4 to 9, 14 and 15, looked up with what is held: who has joined, and the figures' totals (01, "Answers other than yes").
-- Assumes nothing.
use Rattle.std.specs.Prelude.{ℕ, ◌+◌, Bool, not, ◌&&◌, List, [], ◌∷◌, ◌++◌, leb, ltb, eqb}
use Rattle.calls.specs.declared.Call.{Call}
use Rattle.calls.specs.Limits.{operators, figure_limit}
use Rattle.calls.specs.Answers.{Said, first_of, Acceptance}
use Rattle.calls.specs.Indicators.{Indicator, some}
use Rattle.calls.specs.Call.{Entry, facts_of}

module _ (total : ℕ → ℕ → ℕ → ℕ) (entry : Entry) where
  abbrev pub total_at : ℕ
  total_at = total entry.operator entry.year entry.figure

  -- 8: "a figure would pass 10^11"
  unfoldable pub passes_limit : Bool
  passes_limit = eqb entry.sign 0 && ltb figure_limit (total_at + entry.value)

  -- 9: "a figure would fall below 0"
  unfoldable pub falls_below : Bool
  falls_below = eqb entry.sign 1 && ltb total_at entry.value

-- the lines of the table, each with whether it applies to a call
unfoldable pub lines_for : List Indicator → (ℕ → Bool) → (ℕ → ℕ → ℕ → ℕ) → Call → List (ℕ × Bool)
lines_for kind joined total call =
    -- "an interruption field is refused by 2", in a kind that has none
    (2, not (facts_of kind call).known)
    -- "operator above 15"
    ∷ (4, some (leb operators) ((facts_of kind call).newcomers ++ (facts_of kind call).members))
    -- "any other value outside its range"
    ∷ (5, not (facts_of kind call).within_range)
    -- "Start after end is 14, a time outside the period 15" (02, point 8)
    ∷ (14, (facts_of kind call).times_reversed)
    ∷ (15, (facts_of kind call).times_outside)
    -- "join of one already joined"
    ∷ (6, some joined (facts_of kind call).newcomers)
    -- "operator not joined (tags 2 to 5)"
    ∷ (7, some (λ (operator : ℕ). not (joined operator)) (facts_of kind call).members)
    ∷ (8, some (passes_limit total) (facts_of kind call).entries)
    ∷ (9, some (falls_below total) (facts_of kind call).entries)
    ∷ []

-- "the first in this order": the lines stand in the order of crates/calls/specs/Laws.antt
unfoldable pub answer_to : List Indicator → (ℕ → Bool) → (ℕ → ℕ → ℕ → ℕ) → Call → Said Acceptance
answer_to kind joined total call = first_of (lines_for kind joined total call) (facts_of kind call).answer
