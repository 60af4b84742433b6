-- What a filing call does to a book, and what it answers.
-- Assumes nothing.
use Rattle.std.specs.Prelude.{ℕ, suc, ◌+◌, ◌-◌, cond, List, [], ◌∷◌, eqb, get_or, set}
use Rattle.book.specs.declared.Book.{Book}
use Rattle.calls.specs.declared.Call.{Call}
use Rattle.calls.specs.declared.Call.TheVariants.{Join, Setting, Interruption, Amount, Mark, Rates, Index}
use Rattle.calls.specs.Answers.{Said, refused_by, on_answer, Acceptance}
use Rattle.calls.specs.Masks.{including, remasked}
use Rattle.calls.specs.Indicators.{Indicator, electricity, gas, takes_mark}
use Rattle.calls.specs.Call.{Entry, facts_of}
use Rattle.book.specs.Book.{with_joined, with_marks, with_settings, with_figures, with_rates, with_indices, setting_slot, figure_slot, is_joined, figure_of, in_range}
use Rattle.ledger.specs.Table.{answer_to}

-- an entry "added or subtracted"
unfoldable pub entered : Book → Entry → Book
entered b entry =
    let slot : ℕ = figure_slot entry.operator entry.year entry.figure in
    let old : ℕ = get_or b.figures slot 0 in
    with_figures b (set b.figures slot (cond (eqb entry.sign 0) (old + entry.value) (old - entry.value)))

unfoldable pub enter_all : Book → List Entry → Book
enter_all b [] = b
enter_all b (entry ∷ rest) = enter_all (entered b entry) rest

-- a list changed place by place, the first place having a number
unfoldable pub map_from : ℕ → (ℕ → ℕ → ℕ) → List ℕ → List ℕ
map_from number f [] = []
map_from number f (x ∷ rest) = f number x ∷ map_from (suc number) f rest

-- the marks after a join, a mask for each indicator: nothing of the operator is attested yet, so its mark is set at every indicator of the
-- kind (02, point 1: "all six marks of the operator"; point 4: "A gas join marks those two")
unfoldable pub unattested : List Indicator → List ℕ → ℕ → List ℕ
unattested kind marks operator = map_from 0 (λ (indicator mask : ℕ). cond (takes_mark kind indicator) (including mask operator) mask) marks

-- the book after a call that nothing refuses
unfoldable pub changed : List Indicator → Book → Call → Book
changed kind b (Join operator) = with_marks (with_joined b (including b.joined operator)) (unattested kind b.marks operator)
changed kind b (Setting operator which value) = with_settings b (set b.settings (setting_slot operator which) value)
changed kind b (Interruption operator sign level cause start end weight) =
    enter_all b (facts_of kind (Interruption operator sign level cause start end weight)).entries
changed kind b (Amount operator year figure sign value) = enter_all b (facts_of kind (Amount operator year figure sign value)).entries
changed kind b (Mark operator indicator mark) =
    with_marks b (set b.marks indicator (remasked (get_or b.marks indicator 0) operator mark))
changed kind b (Rates pot cap) = with_rates b pot cap
changed kind b (Index number value) = with_indices b (set b.indices number value)

-- what a call gives: the book afterwards, and what it answers
pub record Outcome : Type 0 where
  pub book : Book
  pub said : Said Acceptance

-- "A refused filing call leaves the book"
unfoldable pub outcome_of : Book → Book → Said Acceptance → Outcome
outcome_of old new answer = record { book = on_answer (λ (number : ℕ). old) (λ (value : Acceptance). new) answer; said = answer }

-- calls on the books of a kind
module _ (kind : List Indicator) where
  -- a call on a book that is in range
  unfoldable pub apply : Book → Call → Outcome
  apply b call = outcome_of b (changed kind b call) (answer_to kind (is_joined b) (figure_of b) call)

  -- a call on any book: one out of range gets 5, "before any other check"
  unfoldable pub file_as : Book → Call → Outcome
  file_as b call = cond (in_range kind b) (apply b call) (outcome_of b b (refused_by 5))

  -- a list of calls, each on the book that the one before left
  unfoldable pub filed_book : Book → List Call → Book
  filed_book b [] = b
  filed_book b (call ∷ rest) = filed_book (file_as b call).book rest

  unfoldable pub filed_answers : Book → List Call → List (Said Acceptance)
  filed_answers b [] = []
  filed_answers b (call ∷ rest) = (file_as b call).said ∷ filed_answers (file_as b call).book rest

-- "any other call .. is for electricity unless it names gas" (02, point 4)
abbrev pub file : Book → Call → Outcome
file = file_as electricity

abbrev pub file_gas : Book → Call → Outcome
file_gas = file_as gas
