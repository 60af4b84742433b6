-- The plain history, made from the calls and their arguments alone (01, "The history"). Nothing here knows of a book.
-- Assumes nothing.
use Rattle.std.specs.Prelude.{ℕ, ◌+◌, ◌-◌, Bool, true, false, cond, ◌&&◌, List, [], ◌∷◌, eqb}
use Rattle.calls.specs.declared.Call.{Call}
use Rattle.calls.specs.declared.Call.TheVariants.{Join, Setting, Interruption, Amount, Mark, Rates, Index}
use Rattle.calls.specs.Limits.{fresh_index}
use Rattle.calls.specs.Held.{Held, held}
use Rattle.calls.specs.Answers.{Said, on_answer, Acceptance}
use Rattle.calls.specs.Indicators.{Indicator, takes_mark}
use Rattle.calls.specs.Call.{Entry, facts_of}
use Rattle.ledger.specs.Table.{answer_to}

pub record History : Type 0 where
  pub joined : ℕ → Bool
  -- operator, which
  pub setting : ℕ → ℕ → ℕ
  -- operator, indicator
  pub mark : ℕ → ℕ → Bool
  pub pot_rate : ℕ
  pub cap_rate : ℕ
  pub index : ℕ → ℕ
  -- operator, year, figure: the two sums
  pub filed : ℕ → ℕ → ℕ → ℕ
  pub withdrawn : ℕ → ℕ → ℕ → ℕ

-- a history by its parts, in the order above
abbrev pub history : (ℕ → Bool) → (ℕ → ℕ → ℕ) → (ℕ → ℕ → Bool) → ℕ → ℕ → (ℕ → ℕ) → (ℕ → ℕ → ℕ → ℕ) → (ℕ → ℕ → ℕ → ℕ) → History
history joined setting mark pot cap index filed withdrawn =
    record { joined = joined; setting = setting; mark = mark; pot_rate = pot; cap_rate = cap; index = index; filed = filed; withdrawn = withdrawn }

-- a history with another part, all else as it was
abbrev pub history_with_operators : History → (ℕ → Bool) → History
history_with_operators h joined = history joined h.setting h.mark h.pot_rate h.cap_rate h.index h.filed h.withdrawn

abbrev pub history_with_settings : History → (ℕ → ℕ → ℕ) → History
history_with_settings h setting = history h.joined setting h.mark h.pot_rate h.cap_rate h.index h.filed h.withdrawn

abbrev pub history_with_marks : History → (ℕ → ℕ → Bool) → History
history_with_marks h mark = history h.joined h.setting mark h.pot_rate h.cap_rate h.index h.filed h.withdrawn

abbrev pub history_with_rates : History → ℕ → ℕ → History
history_with_rates h pot cap = history h.joined h.setting h.mark pot cap h.index h.filed h.withdrawn

abbrev pub history_with_indices : History → (ℕ → ℕ) → History
history_with_indices h index = history h.joined h.setting h.mark h.pot_rate h.cap_rate index h.filed h.withdrawn

abbrev pub history_with_sums : History → (ℕ → ℕ → ℕ → ℕ) → (ℕ → ℕ → ℕ → ℕ) → History
history_with_sums h filed withdrawn = history h.joined h.setting h.mark h.pot_rate h.cap_rate h.index filed withdrawn

-- "no operator, every setting at its fresh value, and two sums of 0"
unfoldable pub plain : History
plain = history (λ o. false) (λ o which. 0) (λ o indicator. false) 0 0 (λ number. fresh_index) (λ o year figure. 0) (λ o year figure. 0)

-- "A figure's total, its entries less withdrawals, is filed less withdrawn"
unfoldable pub total : History → ℕ → ℕ → ℕ → ℕ
total h operator year figure = h.filed operator year figure - h.withdrawn operator year figure

-- what a history holds
abbrev pub held_in : History → Held
held_in h = held h.joined h.setting h.mark h.pot_rate h.cap_rate h.index (total h)

-- a value replaced at one place
unfoldable pub at1 : {A : Type 0} → ℕ → A → (ℕ → A) → ℕ → A
at1 i value old j = cond (eqb j i) value (old j)

unfoldable pub at2 : {A : Type 0} → ℕ → ℕ → A → (ℕ → ℕ → A) → ℕ → ℕ → A
at2 i j value old k l = cond (eqb k i && eqb l j) value (old k l)

-- an entry added to a sum
unfoldable pub summed : Entry → (ℕ → ℕ → ℕ → ℕ) → ℕ → ℕ → ℕ → ℕ
summed entry old k y f = cond (eqb k entry.operator && eqb y entry.year && eqb f entry.figure) (old k y f + entry.value) (old k y f)

-- an entry goes to the filed sum of its figure, "with sign 1 to the withdrawn one"
unfoldable pub with_entry : History → Entry → History
with_entry h entry =
    history_with_sums h
    (cond (eqb entry.sign 0) (summed entry h.filed) h.filed)
    (cond (eqb entry.sign 0) h.withdrawn (summed entry h.withdrawn))

unfoldable pub with_entries : History → List Entry → History
with_entries h [] = h
with_entries h (entry ∷ rest) = with_entries (with_entry h entry) rest

-- what the history of a kind of operators notes
module _ (kind : List Indicator) where
  -- "Join adds the operator", and sets its mark at every indicator of the kind (02, point 1: "with a join counted as setting six marks"; point 4:
  -- "A gas join marks those two"). "Setting, mark and index replace the value they name, rates both rates."
  unfoldable pub recorded : History → Call → History
  recorded h (Join operator) = history_with_marks (history_with_operators h (at1 operator true h.joined)) (at1 operator (takes_mark kind) h.mark)
  recorded h (Setting operator which value) = history_with_settings h (at2 operator which value h.setting)
  recorded h (Interruption operator sign level cause start end weight) =
      with_entries h (facts_of kind (Interruption operator sign level cause start end weight)).entries
  recorded h (Amount operator year figure sign value) = with_entries h (facts_of kind (Amount operator year figure sign value)).entries
  recorded h (Mark operator indicator mark) = history_with_marks h (at2 operator indicator (eqb mark 1) h.mark)
  recorded h (Rates pot cap) = history_with_rates h pot cap
  recorded h (Index number value) = history_with_indices h (at1 number value h.index)

  -- "The table of answers .. is looked up with what the history itself holds", by the first number in its order (02, point 8)
  unfoldable pub note_answer : History → Call → Said Acceptance
  note_answer h call = answer_to kind h.joined (total h) call

  -- the history after a call; "If a number applies to the call, .. the history stays"
  unfoldable pub note_history : History → Call → History
  note_history h call = on_answer (λ (number : ℕ). h) (λ (value : Acceptance). recorded h call) (note_answer h call)

  -- a list of calls
  unfoldable pub noted_history : History → List Call → History
  noted_history h [] = h
  noted_history h (call ∷ rest) = noted_history (note_history h call) rest

  unfoldable pub noted_answers : History → List Call → List (Said Acceptance)
  noted_answers h [] = []
  noted_answers h (call ∷ rest) = note_answer h call ∷ noted_answers (note_history h call) rest
