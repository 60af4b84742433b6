-- What the call for a sheet answers, by the numbers that apply; and that of a book in range the sheets are the figures themselves.
-- Assumes nothing.
use Prim.Native.Nat.{ℕ, ◌+◌, ◌≤◌, ◌<◌}
use mathlib.Core.Path.{◌≡◌, refl, ap, subst, ◌∙◌}
use mathlib.Core.Bool.{Bool, true, false, cond, not, ◌||◌}
use mathlib.Core.List.{List, [], ◌∷◌, map}
use native.Mathlib.Omega.{arith}
use lib.Dec.{leb, ltb}
use borrow.Author.Tests.{leb-false, lt-leb, ltb-true, le-ltb, lt-ltb}
use Rattle.calls.specs.declared.Call.{Call}
use Rattle.calls.specs.declared.Call.TheVariants.{Amount}
use Rattle.calls.specs.Limits.{operators, years, figure_count, figure_limit, first_count}
use Rattle.calls.specs.Masks.{has}
use Rattle.std.specs.Prelude.{Result, Ok, Err, IsErrAnd}
use Rattle.calls.specs.declared.Refusal.{Refusal}
use Rattle.calls.specs.Answers.{Said, refused_by, accepted, on_answer, first_of, Acceptance, yes_said, number_of}
use Rattle.calls.specs.Call.{facts_of}
use Rattle.calls.specs.Laws.{rank, place_from, stand_from, First}
use Rattle.calls.proofs.First.{first-in-order}
use Rattle.calls.proofs.Flags.{and-true-right, or-false-right}
use Rattle.calls.proofs.KindLaws.{kinds-opened}
use Rattle.book.specs.declared.Book.{Book}
use Rattle.book.specs.Book.{is_joined, figure_slot, figure_of, most, in_range}
use Rattle.book.proofs.TakenLaws.{ranged-bounds}
use Rattle.calls.specs.Indicators.{electricity, some}
use Rattle.ledger.specs.Table.{passes_limit, falls_below, lines_for, answer_to}
use Rattle.ledger.specs.Calls.{Outcome, outcome_of, apply, file_as, file}
use Rattle.ledger.specs.Steps.{member_lines}
use Rattle.history.proofs.Kept.{filed-applied}
use Rattle.sheets.specs.Sheet.{sheet_figures, counts_of, no_counts, Sheet, sheet_told, sheet_said, sheet_of, sheet_lines}

-- figures of one year stand one after the other
pub next-slot : (operator year figure more : ℕ) → figure_slot operator year figure + more ≡ figure_slot operator year (figure + more)
unfolding figure_slot
next-slot operator year figure more = omega arith

-- of an amount's values only the year may be out of range
pub year-alone : (year : ℕ) → (facts_of electricity (Amount 0 year first_count 0 0)).within_range ≡ ltb year years
unfolding facts_of kinds-opened
year-alone year = rw (and-true-right (ltb year years), and-true-right (ltb year years), and-true-right (ltb year years)) refl

abbrev pub refused_sheet : ℕ → Sheet
refused_sheet number = record { said = refused_by number; counts = no_counts }

-- a refusal that `?` hands on
pub told-refusal : (result : Result (List ℕ) Refusal) (refusal : Refusal) → IsErrAnd result (λ given. given ≡ refusal) → sheet_told result ≡ refused_sheet (number_of refusal)
told-refusal (Ok counts) refusal same = absurd same
told-refusal (Err given) refusal same = ap (λ (one : Refusal). refused_sheet (number_of one)) same

abbrev pub given_sheet : List ℕ → Sheet
given_sheet counts = record { said = accepted yes_said; counts = counts }

module _ (b : Book) (operator year : ℕ) where
  -- a book out of range
  -- the field that it is answered as
  abbrev nothing_filed : Call
  nothing_filed = Amount operator year first_count 0 0

  filed-out-of-range : in_range electricity b ≡ false → file b nothing_filed ≡ outcome_of b b (refused_by 5)
  unfolding file_as
  filed-out-of-range e = rw e refl

  said-out-of-range : in_range electricity b ≡ false → sheet_said b operator year ≡ refused_by 5
  unfolding sheet_said outcome_of
  said-out-of-range e = ap (λ (o : Outcome). o.said) (filed-out-of-range e)

  pub sheet-out-of-range : in_range electricity b ≡ false → sheet_of b operator year ≡ refused_sheet 5
  unfolding sheet_of on_answer
  sheet-out-of-range e = rw (said-out-of-range e) refl

  module _ (ranged : in_range electricity b ≡ true) where
    -- what stands at a figure passes no limit
    at_most : operator < operators → year < years → (figure : ℕ) → figure < figure_count → figure_of b operator year figure ≤ most b.joined operator figure_limit
    unfolding figure_of
    at_most lo ly figure lf = (ranged-bounds electricity b ranged).figures.within operator year figure lo ly lf

    within-limit : operator < operators → year < years → has b.joined operator ≡ true → ltb figure_limit (figure_of b operator year first_count + 0) ≡ false
    unfolding most
    within-limit lo ly joined =
        let fits : figure_of b operator year first_count ≤ figure_limit = rw joined at (at_most lo ly first_count (omega arith)) in
        le-ltb figure_limit (figure_of b operator year first_count + 0) (omega (arith, fits))

    -- 4, 5 and 7, and nothing else: an amount of 0 passes no limit and falls nowhere below 0
    said-as-member : sheet_said b operator year ≡ first_of (member_lines b.joined operator (ltb year years)) yes_said
    unfolding sheet_said apply outcome_of answer_to lines_for facts_of some passes_limit falls_below member_lines first_of is_joined kinds-opened
    said-as-member =
        ap (λ (o : Outcome). o.said) (filed-applied electricity b nothing_filed ranged)
        ∙ rw (or-false-right (leb operators operator), and-true-right (ltb year years), and-true-right (ltb year years), and-true-right (ltb year years), or-false-right (not (has b.joined operator)))
        (go (leb operators operator) (ltb year years) (has b.joined operator) refl refl refl)
      where
        go : (t u v : Bool) → leb operators operator ≡ t → ltb year years ≡ u → has b.joined operator ≡ v
            → first_of ((4, t) ∷ (5, not u) ∷ (6, false) ∷ (7, not v) ∷ (8, ltb figure_limit (figure_of b operator year first_count + 0) || false) ∷ (9, false) ∷ []) yes_said
            ≡ first_of ((4, t) ∷ (5, not u) ∷ (7, not v) ∷ []) yes_said
        go true u v k r j = refl
        go false false v k r j = refl
        go false true false k r j = refl
        go false true true k r j = rw (within-limit (leb-false operators operator k) (ltb-true year years r) j) refl

    -- what the shared checks come to
    abbrev pub Asked : Said (Unit {0}) → Type 0
    Asked (refused_by number) = sheet_of b operator year ≡ refused_sheet number
    Asked (accepted value) = (operator < operators) × (year < years) × (sheet_of b operator year ≡ given_sheet (counts_of b operator year))

    pub asked : (answer : Said (Unit {0})) → first_of (member_lines b.joined operator (ltb year years)) tt ≡ answer → Asked answer
    unfolding sheet_of member_lines first_of on_answer
    asked answer e = subst Asked e (go (leb operators operator) (ltb year years) (has b.joined operator) refl refl refl)
      where
        go : (t u v : Bool) → leb operators operator ≡ t → ltb year years ≡ u → has b.joined operator ≡ v
            → Asked (first_of ((4, t) ∷ (5, not u) ∷ (7, not v) ∷ []) tt)
        go true u v k r j = rw (said-as-member, k) refl
        go false false v k r j = rw (said-as-member, k, r) refl
        go false true false k r j = rw (said-as-member, k, r, j) refl
        go false true true k r j = (leb-false operators operator k, ltb-true year years r, rw (said-as-member, k, r, j) refl)

    -- one that has not joined holds 0 at every figure, so its sheet shows its figures too
    pub counts-are-figures : operator < operators → year < years → (sheet_of b operator year).counts ≡ counts_of b operator year
    unfolding sheet_of counts_of member_lines first_of on_answer most
    counts-are-figures lo ly = rw (said-as-member, lt-leb operators operator lo, lt-ltb year years ly) (go (has b.joined operator) refl)
      where
        none : has b.joined operator ≡ false → (figure : ℕ) → figure < figure_count → figure_of b operator year figure ≡ 0
        none j figure lf = omega (arith, rw j at (at_most lo ly figure lf))

        go : (v : Bool) → has b.joined operator ≡ v
            → on_answer (λ (number : ℕ). no_counts) (λ (value : Acceptance). map (figure_of b operator year) sheet_figures) (first_of ((7, not v) ∷ []) yes_said)
            ≡ map (figure_of b operator year) sheet_figures
        go true j = refl
        go false j = rw (none j 8 (omega arith), none j 9 (omega arith), none j 10 (omega arith), none j 11 (omega arith), none j 12 (omega arith)) refl

  -- the number that is given is the first line that applies
  pub sheet-by-lines : (sheet_of b operator year).said ≡ first_of (sheet_lines b operator year) yes_said
  unfolding sheet_of sheet_lines member_lines first_of is_joined
  sheet-by-lines = go (in_range electricity b) refl
    where
      go : (t : Bool) → in_range electricity b ≡ t
          → (sheet_of b operator year).said
          ≡ first_of (cond t ((4, leb operators operator) ∷ (5, not (ltb year years)) ∷ (7, not (has b.joined operator)) ∷ []) ((5, true) ∷ [])) yes_said
      go true ranged = said-as-member ranged
      go false e = said-out-of-range e

pub first-of-sheets : (b : Book) (operator year : ℕ) → First (sheet_lines b operator year) yes_said
unfolding rank place_from stand_from sheet_lines
first-of-sheets b operator year = first-in-order yes_said (sheet_lines b operator year) (go (in_range electricity b))
  where
    go : (t : Bool)
        → stand_from 0 (cond t ((4, leb operators operator) ∷ (5, not (ltb year years)) ∷ (7, not (is_joined b operator)) ∷ []) ((5, true) ∷ [])) ≡ true
    go true = refl
    go false = refl
