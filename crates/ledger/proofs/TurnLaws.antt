-- Calls made in turn: the answers and the last book of every run are the defined ones, and every list of calls has a run.
-- Assumes nothing.
use Prim.Native.Nat.{ℕ, zero, suc, ◌≤◌}
use mathlib.Core.Path.{◌≡◌, refl, ap₂}
use mathlib.Core.Bool.{Bool, true, false, cond, ◌&&◌}
use mathlib.Core.List.{List, [], ◌∷◌, map}
use native.Mathlib.Omega.{arith}
use lib.Dec.{leb}
use borrow.Author.Tests.{leb-true}
use Rattle.calls.specs.declared.Call.{Call}
use Rattle.calls.specs.declared.Call.TheVariants.{Join, Setting, Interruption, Amount, Mark, Rates, Index}
use Rattle.calls.specs.declared.Answer.{Answer}
use Rattle.calls.specs.Limits.{short_most}
use Rattle.calls.specs.Answers.{Said, refused_by, accepted, first_of, Acceptance, counted_in, left_out_as_short, left_out_under, said}
use Rattle.calls.specs.Indicators.{Indicator}
use Rattle.calls.specs.Call.{outcome, facts_of}
use Rattle.calls.proofs.Flags.{both}
use Rattle.calls.proofs.SaidLaws.{answer_saying}
use Rattle.book.specs.declared.Book.{Book}
use Rattle.book.specs.Book.{is_joined, figure_of, in_range}
use Rattle.ledger.specs.Table.{lines_for, answer_to}
use Rattle.ledger.specs.Calls.{outcome_of, apply, file_as, filed_book, filed_answers}
use Rattle.ledger.specs.Filed.{FiledInTurn}

-- ---- a run gives what is defined
pub as_taken_in_turn : (kind : List Indicator) (calls : List Call) (answers : List Answer) (b last : Book) → FiledInTurn kind b calls answers last
    → (map said answers ≡ filed_answers kind b calls) × (last ≡ filed_book kind b calls)
unfolding filed_answers filed_book
as_taken_in_turn kind [] [] b last ended = (refl, ended)
as_taken_in_turn kind [] (answer ∷ answers) b last none = absurd none
as_taken_in_turn kind (call ∷ calls) [] b last none = absurd none
as_taken_in_turn kind (call ∷ calls) (answer ∷ answers) b last (next, (says, leaves), rest) =
    let later : (map said answers ≡ filed_answers kind (file_as kind b call).book calls) × (last ≡ filed_book kind (file_as kind b call).book calls) =
    rw leaves at (as_taken_in_turn kind calls answers next last rest) in
    (ap₂ ◌∷◌ says later.0, later.1)

-- ---- some answer says what is defined
abbrev Sayable : Said Acceptance → Type 0
Sayable s = said (answer_saying s) ≡ s

-- a cause under which an interruption is left out is 1, 2 or 3
sayable-cause : (cause : ℕ) → 1 ≤ cause → cause ≤ 3 → Sayable (accepted (left_out_under cause))
sayable-cause zero least most = absurd (omega (arith, least))
sayable-cause (suc zero) least most = refl
sayable-cause (suc (suc zero)) least most = refl
sayable-cause (suc (suc (suc zero))) least most = refl
sayable-cause (suc (suc (suc (suc more)))) least most = absurd (omega (arith, most))

sayable-outcome : (cause seconds year : ℕ) → Sayable (accepted (outcome cause seconds year))
unfolding outcome
sayable-outcome cause seconds year = go (leb seconds short_most) (leb 1 cause && leb cause 3) refl
  where
    go : (short under : Bool) → leb 1 cause && leb cause 3 ≡ under
        → Sayable (accepted (cond short left_out_as_short (cond under (left_out_under cause) (counted_in year))))
    go true under tests = refl
    go false true tests =
        let ends = both (leb 1 cause) (leb cause 3) tests in
        sayable-cause cause (leb-true 1 cause ends.0) (leb-true cause 3 ends.1)
    go false false tests = refl

sayable-facts : (kind : List Indicator) (call : Call) → Sayable (accepted (facts_of kind call).answer)
unfolding facts_of
sayable-facts kind (Join operator) = refl
sayable-facts kind (Setting operator which value) = refl
sayable-facts kind (Interruption operator sign level cause start end weight) = sayable-outcome cause _ _
sayable-facts kind (Amount operator year figure sign value) = refl
sayable-facts kind (Mark operator indicator mark) = refl
sayable-facts kind (Rates pot cap) = refl
sayable-facts kind (Index number value) = refl

-- every number of a table is a refusal's
abbrev AllSayable : List (ℕ × Bool) → Type 0
AllSayable [] = Unit {0}
AllSayable ((number, applies) ∷ rest) = Sayable (refused_by number) × AllSayable rest

sayable-first : (lines : List (ℕ × Bool)) (value : Acceptance) → AllSayable lines → Sayable (accepted value) → Sayable (first_of lines value)
unfolding first_of
sayable-first [] value numbers it = it
sayable-first ((number, true) ∷ rest) value numbers it = numbers.0
sayable-first ((number, false) ∷ rest) value numbers it = sayable-first rest value numbers.1 it

sayable-filed : (kind : List Indicator) (b : Book) (call : Call) → Sayable (file_as kind b call).said
unfolding file_as apply outcome_of answer_to lines_for
sayable-filed kind b call = go (in_range kind b)
  where
    go : (ranged : Bool) → Sayable (cond ranged (apply kind b call) (outcome_of b b (refused_by 5))).said
    go true =
        sayable-first (lines_for kind (is_joined b) (figure_of b) call) (facts_of kind call).answer
        (refl, (refl, (refl, (refl, (refl, (refl, (refl, (refl, (refl, tt))))))))) (sayable-facts kind call)
    go false = refl

-- ---- so every list has a run
pub has_run : (kind : List Indicator) (calls : List Call) (b : Book) → (answers : List Answer) × FiledInTurn kind b calls answers (filed_book kind b calls)
unfolding filed_book
has_run kind [] b = ([], refl)
has_run kind (call ∷ calls) b =
    let later = has_run kind calls (file_as kind b call).book in
    (answer_saying (file_as kind b call).said ∷ later.0, ((file_as kind b call).book, (sayable-filed kind b call, refl), later.1))
