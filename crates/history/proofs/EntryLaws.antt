-- The entries of a call in range stand within the book, at figures that differ; and tests over entries.
-- Assumes nothing.
use Prim.Native.Nat.{ℕ, ◌+◌, ◌*◌, ◌≤◌, ◌<◌}
use mathlib.Core.Path.{◌≡◌, refl, sym, ap₂, ◌∙◌}
use mathlib.Core.Logic.{◌≢◌}
use mathlib.Core.Bool.{Bool, true, false, cond, not, ◌&&◌, ◌||◌, true≢false}
use mathlib.Core.List.{List, [], ◌∷◌, ◌++◌}
use native.Mathlib.Omega.{arith}
use lib.Dec.{leb}
use borrow.Author.Tests.{leb-true, leb-false}
use Rattle.calls.specs.declared.Call.{Call}
use Rattle.calls.specs.declared.Call.TheVariants.{Join, Setting, Interruption, Amount, Mark, Rates, Index}
use Rattle.calls.specs.Limits.{operators, years, figure_count, short_most, first_count}
use Rattle.calls.specs.Indicators.{Indicator, some, takes_interruptions, takes_figure}
use Rattle.calls.specs.Answers.{Acceptance, counted_in, left_out_as_short, left_out_under}
use Rattle.calls.specs.Call.{Entry, year_of, seconds_of, outcome, measured_entries, count_figure, interruption_entries, facts_of}
use Rattle.ledger.proofs.AdmissionLaws.{is_unknown, lacks_operator}
use Rattle.calls.proofs.Flags.{and_right, or-false-right}
use Rattle.calls.proofs.RangeLaws.{Ranges}
use Rattle.calls.proofs.KindLaws.{measured-taken, count-taken}

-- what holds of every element of a list
abbrev pub All : {A : Type 0} → (A → Type 0) → List A → Type 0
All P [] = Unit {0}
All P (x ∷ rest) = P x × All P rest

-- an entry within the book
pub record Within (kind : List Indicator) (entry : Entry) : Type 0 where
  pub operator_lt : entry.operator < operators
  pub year_lt : entry.year < years
  pub figure_lt : entry.figure < figure_count
  pub sign_le : entry.sign ≤ 1
  pub taken : takes_figure kind entry.figure ≡ true

-- no figure has two entries
abbrev pub Distinct : List Entry → Type 0
Distinct [] = Unit {0}
Distinct (entry ∷ rest) = All (λ (other : Entry). other.figure ≢ entry.figure) rest × Distinct rest

-- an operator that 4 lets pass, and one that 7 lets pass
pub known-lt : (operator : ℕ) → leb operators operator || false ≡ false → operator < operators
known-lt operator e = leb-false operators operator (sym (or-false-right _) ∙ e)

pub member-there : (t : Bool) → not t || false ≡ false → t ≡ true
member-there true e = refl
member-there false e = absurd (true≢false e)

module _ (operator sign level weight seconds year cause : ℕ) where
  -- what an interruption comes to, by its two tests
  abbrev judged : Bool → Bool → Acceptance
  judged short excused = cond short left_out_as_short (cond excused (left_out_under cause) (counted_in year))

  abbrev judged_entries : Bool → Bool → List Entry
  judged_entries short excused = interruption_entries operator sign level weight seconds year (judged short excused)

  module _ (kind : List Indicator) (had : takes_interruptions kind ≡ true) where
    judged-within : (t u : Bool) → (u ≡ true → cause ≤ 3) → operator < operators → sign ≤ 1 → level ≤ 1 → year < years → All (Within kind) (judged_entries t u)
    unfolding interruption_entries measured_entries count_figure
    judged-within true u most lo ls ll ly =
        (record { operator_lt = lo; year_lt = ly; figure_lt = omega arith; sign_le = ls; taken = count-taken kind (first_count + 1) had (omega arith) }, tt)
    judged-within false true most lo ls ll ly =
        (record { operator_lt = lo; year_lt = ly; figure_lt = omega (arith, most refl); sign_le = ls; taken = count-taken kind (first_count + 1 + cause) had (omega arith) }, tt)
    judged-within false false most lo ls ll ly = (
      record { operator_lt = lo; year_lt = ly; figure_lt = omega arith; sign_le = ls; taken = measured-taken kind (2 * level) had (omega arith) },
      (
        record { operator_lt = lo; year_lt = ly; figure_lt = omega arith; sign_le = ls; taken = measured-taken kind (2 * level + 1) had (omega arith) },
        (record { operator_lt = lo; year_lt = ly; figure_lt = omega arith; sign_le = ls; taken = count-taken kind first_count had (omega arith) }, tt),
      ),
    )

  judged-distinct : (t u : Bool) → level ≤ 1 → Distinct (judged_entries t u)
  unfolding interruption_entries measured_entries count_figure
  judged-distinct true u ll = (tt, tt)
  judged-distinct false true ll = (tt, tt)
  judged-distinct false false ll = (((λ e. omega (arith, e)), ((λ e. omega (arith, e, ll)), tt)), (((λ e. omega (arith, e, ll)), tt), (tt, tt)))

  judged-joined : (joined : ℕ → Bool) (t u : Bool) → joined operator ≡ true → All (λ (entry : Entry). joined entry.operator ≡ true) (judged_entries t u)
  unfolding interruption_entries measured_entries
  judged-joined joined true u there = (there, tt)
  judged-joined joined false true there = (there, tt)
  judged-joined joined false false there = (there, (there, (there, tt)))

pub entries-within : (kind : List Indicator) (call : Call) → (facts_of kind call).known ≡ true → is_unknown kind call ≡ false → Ranges kind call
    → All (Within kind) (facts_of kind call).entries
unfolding facts_of some outcome
entries-within kind (Join operator) had known r = tt
entries-within kind (Setting operator which value) had known r = tt
entries-within kind (Interruption operator sign level cause start end weight) had known r =
    judged-within operator sign level weight (seconds_of start end) (year_of end) cause kind had (leb (seconds_of start end) short_most) (leb 1 cause && leb cause 3)
    (λ e. leb-true cause 3 (and_right (leb 1 cause) _ e)) (known-lt operator known) r.0 r.1 r.2
entries-within kind (Amount operator year figure sign value) had known r =
    (record { operator_lt = known-lt operator known; year_lt = r.0; figure_lt = r.1; sign_le = r.2; taken = r.3 }, tt)
entries-within kind (Mark operator indicator mark) had known r = tt
entries-within kind (Rates pot cap) had known r = tt
entries-within kind (Index number value) had known r = tt

pub entries-distinct : (kind : List Indicator) (call : Call) → Ranges kind call → Distinct (facts_of kind call).entries
unfolding facts_of outcome
entries-distinct kind (Join operator) r = tt
entries-distinct kind (Setting operator which value) r = tt
entries-distinct kind (Interruption operator sign level cause start end weight) r =
    judged-distinct operator sign level weight (seconds_of start end) (year_of end) cause (leb (seconds_of start end) short_most) (leb 1 cause && leb cause 3) r.1
entries-distinct kind (Amount operator year figure sign value) r = (tt, tt)
entries-distinct kind (Mark operator indicator mark) r = tt
entries-distinct kind (Rates pot cap) r = tt
entries-distinct kind (Index number value) r = tt

pub entries-joined : (kind : List Indicator) (joined : ℕ → Bool) (call : Call) → lacks_operator kind joined call ≡ false
    → All (λ (entry : Entry). joined entry.operator ≡ true) (facts_of kind call).entries
unfolding facts_of some outcome
entries-joined kind joined (Join operator) there = tt
entries-joined kind joined (Setting operator which value) there = tt
entries-joined kind joined (Interruption operator sign level cause start end weight) there =
    judged-joined operator sign level weight (seconds_of start end) (year_of end) cause joined (leb (seconds_of start end) short_most) (leb 1 cause && leb cause 3)
    (member-there _ there)
entries-joined kind joined (Amount operator year figure sign value) there = (member-there _ there, tt)
entries-joined kind joined (Mark operator indicator mark) there = tt
entries-joined kind joined (Rates pot cap) there = tt
entries-joined kind joined (Index number value) there = tt

-- a test that holds of no entry, and two tests that agree at every entry
none_of : (s t : Bool) → s || t ≡ false → (s ≡ false) × (t ≡ false)
none_of true t e = absurd (true≢false e)
none_of false t e = (refl, e)

module _ {A : Type 0} where
  pub none-some : (test : A → Bool) (list : List A) → some test list ≡ false → All (λ (x : A). test x ≡ false) list
  unfolding some
  none-some test [] e = tt
  none-some test (x ∷ rest) e =
      let both = none_of _ _ e in
      (both.0, none-some test rest both.1)

  pub same_some : (test other : A → Bool) (list : List A) → All (λ (x : A). test x ≡ other x) list → some test list ≡ some other list
  unfolding some
  same_some test other [] all = refl
  same_some test other (x ∷ rest) all = ap₂ ◌||◌ all.0 (same_some test other rest all.1)

  pub all_map : (P Q : A → Type 0) → ((x : A) → P x → Q x) → (list : List A) → All P list → All Q list
  all_map P Q f [] all = tt
  all_map P Q f (x ∷ rest) all = (f x all.0, all_map P Q f rest all.1)

  pub all_both : (P Q : A → Type 0) (list : List A) → All P list → All Q list → All (λ (x : A). P x × Q x) list
  all_both P Q [] all also = tt
  all_both P Q (x ∷ rest) all also = ((all.0, also.0), all_both P Q rest all.1 also.1)

  pub all-parts : (P : A → Type 0) (list more : List A) → All P (list ++ more) → All P list × All P more
  all-parts P [] more all = (tt, all)
  all-parts P (x ∷ rest) more all =
      let parts = all-parts P rest more all.1 in
      ((all.0, parts.0), parts.1)
