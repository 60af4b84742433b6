-- The sheets of every list of filing calls add up (specs/Total.antt): what a history has filed in the fifteen figures of an operator, and
-- what it has withdrawn there, grow call by call as the two sums over accepted calls do.
-- Assumes nothing.
use Prim.Native.Nat.{ℕ, ◌+◌, ◌*◌, ◌≤◌, ◌<◌}
use mathlib.Core.Path.{◌≡◌, refl, sym, ap, ap₂, ◌∙◌}
use mathlib.Core.Logic.{◌⊎◌, inl, inr}
use mathlib.Core.Bool.{Bool, true, false, cond, ◌&&◌}
use mathlib.Core.List.{List, [], ◌∷◌, map}
use native.Mathlib.Omega.{arith}
use native.Mathlib.Decide.{ℕ_discrete}
use lib.Dec.{leb, eqb}
use borrow.Author.Tests.{ne_eqb, leb-true, leb-false, le-leb, lt-leb}
use Rattle.apportion.specs.Sum.{sum}
use Rattle.calls.specs.declared.Call.{Call}
use Rattle.calls.specs.declared.Call.TheVariants.{Join, Setting, Interruption, Amount, Mark, Rates, Index}
use Rattle.calls.specs.Indicators.{electricity}
use Rattle.calls.specs.Limits.{operators, years, figure_count, first_count, short_most}
use Rattle.calls.specs.Answers.{Said, refused_by, accepted, on_answer, Acceptance, counted_in, left_out_as_short, left_out_under}
use Rattle.calls.specs.Call.{Entry, entry, seconds_of, year_of, outcome, measured_entries, count_figure, interruption_entries, facts_of}
use Rattle.calls.proofs.Flags.{and-true-right, and-false-right}
use Rattle.calls.proofs.RangeLaws.{Ranges}
use Rattle.book.specs.Book.{figure_of}
use Rattle.history.specs.History.{History, plain, total, summed, with_entry, with_entries, recorded, note_answer, note_history, noted_history, noted_answers}
use Rattle.history.specs.Demand.{book_of, history_of}
use Rattle.history.proofs.EntryLaws.{All, Within, entries-within}
use Rattle.history.proofs.TableLaws.{Decided, decided}
use Rattle.history.proofs.Kept.{kept}
use Rattle.sheets.specs.Sheet.{sheet_figures, counts_of, sheet_of}
use Rattle.sheets.specs.Total.{as_interruption, as_amount, over_accepted, sheets_total, SheetsAddUp}
use Rattle.sheets.proofs.SheetLaws.{counts-are-figures}

-- ---- the five figures of a year, and the fifteen of three years
abbrev row : (ℕ → ℕ) → ℕ
row g = sum (map g sheet_figures)

abbrev fifteen : (ℕ → ℕ → ℕ) → ℕ
fifteen g = row (g 0) + row (g 1) + row (g 2)

row_same : (g h : ℕ → ℕ) → ((f : ℕ) → f < figure_count → g f ≡ h f) → row g ≡ row h
unfolding sum
row_same g h same = rw (same 8 (omega arith), same 9 (omega arith), same 10 (omega arith), same 11 (omega arith), same 12 (omega arith)) refl

row-added : (g h : ℕ → ℕ) → row (λ f. g f + h f) ≡ row g + row h
unfolding sum
row-added g h = omega arith

fifteen-same : (g h : ℕ → ℕ → ℕ) → ((y f : ℕ) → y < years → f < figure_count → g y f ≡ h y f) → fifteen g ≡ fifteen h
fifteen-same g h same =
    ap₂ ◌+◌ (ap₂ ◌+◌ (row_same (g 0) (h 0) (λ f lf. same 0 f (omega arith) lf)) (row_same (g 1) (h 1) (λ f lf. same 1 f (omega arith) lf)))
    (row_same (g 2) (h 2) (λ f lf. same 2 f (omega arith) lf))

fifteen-added : (g h : ℕ → ℕ → ℕ) → fifteen (λ y f. g y f + h y f) ≡ fifteen g + fifteen h
fifteen-added g h = omega (arith, row-added (g 0) (h 0), row-added (g 1) (h 1), row-added (g 2) (h 2))

-- a value at one figure of one year
row-none : row (λ f. 0) ≡ 0
unfolding sum
row-none = refl

one_less : (n bound : ℕ) → n < bound + 1 → (n ≡ bound → ⊥) → n < bound
one_less n bound lt other = omega arith

row_one : (figure value : ℕ) → figure < figure_count → row (λ f. cond (eqb f figure) value 0) ≡ cond (leb first_count figure) value 0
unfolding sum
row_one figure value lt =
    go (ℕ_discrete figure 8) (ℕ_discrete figure 9) (ℕ_discrete figure 10) (ℕ_discrete figure 11) (ℕ_discrete figure 12)
  where
    go : Dec (figure ≡ 8) → Dec (figure ≡ 9) → Dec (figure ≡ 10) → Dec (figure ≡ 11) → Dec (figure ≡ 12)
        → row (λ f. cond (eqb f figure) value 0) ≡ cond (leb first_count figure) value 0
    go (yes e) b c d f = rw e (omega arith)
    go (no a) (yes e) c d f = rw e (omega arith)
    go (no a) (no b) (yes e) d f = rw e (omega arith)
    go (no a) (no b) (no c) (yes e) f = rw e (omega arith)
    go (no a) (no b) (no c) (no d) (yes e) = rw e (omega arith)
    go (no a) (no b) (no c) (no d) (no f) =
        rw (
          ne_eqb 8 figure (λ e. a (sym e)),
          ne_eqb 9 figure (λ e. b (sym e)),
          ne_eqb 10 figure (λ e. c (sym e)),
          ne_eqb 11 figure (λ e. d (sym e)),
          ne_eqb 12 figure (λ e. f (sym e)),
          lt-leb first_count figure (one_less figure 8 (one_less figure 9 (one_less figure 10 (one_less figure 11 (one_less figure 12 lt f) d) c) b) a),
        )
        refl

fifteen-one : (test : Bool) (year figure value : ℕ) → year < years → figure < figure_count
    → fifteen (λ y f. cond (test && eqb y year && eqb f figure) value 0) ≡ cond (test && leb first_count figure) value 0
fifteen-one false year figure value ly lf = rw row-none refl
fifteen-one true year figure value ly lf = go (ℕ_discrete year 0) (ℕ_discrete year 1)
  where
    go : Dec (year ≡ 0) → Dec (year ≡ 1) → fifteen (λ y f. cond (eqb y year && eqb f figure) value 0) ≡ cond (leb first_count figure) value 0
    go (yes e) b = rw e (omega (arith, row_one figure value lf, row-none))
    go (no a) (yes e) = rw e (omega (arith, row_one figure value lf, row-none))
    go (no a) (no b) =
        let last : year ≡ 2 = omega (arith, ly, a, b) in
        rw last (omega (arith, row_one figure value lf, row-none))

-- ---- one of the two sums of a history: filed with sign 0, withdrawn with sign 1
pub record Side (sign : ℕ) (part : History → ℕ → ℕ → ℕ → ℕ) : Type 0 where
  -- an entry of that sign is added to it, another leaves it
  pub entered : (h : History) (entry : Entry) → entry.sign ≤ 1 → (o y f : ℕ)
      → part (with_entry h entry) o y f ≡ cond (eqb entry.sign sign) (summed entry (part h) o y f) (part h o y f)
  -- a call changes it by its entries alone
  pub by_entries : (h : History) (call : Call) → part (recorded electricity h call) ≡ part (with_entries h (facts_of electricity call).entries)
  pub none : part plain ≡ (λ o y f. 0)

-- what a call makes of the two sums is what its entries make of them
by-entries-alone : (h : History) (call : Call)
    → ((recorded electricity h call).filed ≡ (with_entries h (facts_of electricity call).entries).filed) × ((recorded electricity h call).withdrawn ≡ (with_entries h (facts_of electricity call).entries).withdrawn)
unfolding with_entries recorded facts_of
by-entries-alone h (Join operator) = (refl, refl)
by-entries-alone h (Setting operator which value) = (refl, refl)
by-entries-alone h (Interruption operator sign level cause start end weight) = (refl, refl)
by-entries-alone h (Amount operator year figure sign value) = (refl, refl)
by-entries-alone h (Mark operator indicator mark) = (refl, refl)
by-entries-alone h (Rates pot cap) = (refl, refl)
by-entries-alone h (Index number value) = (refl, refl)

filed-side : Side 0 (λ h. h.filed)
unfolding with_entry plain
filed-side =
    record { entered = λ h entry small o y f. go h entry o y f (eqb entry.sign 0); by_entries = λ h call. (by-entries-alone h call).0; none = refl }
  where
    go : (h : History) (entry : Entry) (o y f : ℕ) (t : Bool)
        → cond t (summed entry h.filed) h.filed o y f ≡ cond t (summed entry h.filed o y f) (h.filed o y f)
    go h entry o y f true = refl
    go h entry o y f false = refl

withdrawn-side : Side 1 (λ h. h.withdrawn)
unfolding with_entry plain
withdrawn-side =
    record {
      entered = λ h entry small o y f. go h entry o y f small (ℕ_discrete entry.sign 0);
      by_entries = λ h call. (by-entries-alone h call).1;
      none = refl;
    }
  where
    go : (h : History) (entry : Entry) (o y f : ℕ) → entry.sign ≤ 1 → Dec (entry.sign ≡ 0)
        → cond (eqb entry.sign 0) h.withdrawn (summed entry h.withdrawn) o y f
        ≡ cond (eqb entry.sign 1) (summed entry h.withdrawn o y f) (h.withdrawn o y f)
    go h entry o y f small (yes e) = rw e refl
    go h entry o y f small (no other) =
        let one : entry.sign ≡ 1 = omega (arith, small, other) in
        rw one refl

-- what an entry adds to the fifteen figures of an operator
abbrev on_sheets : ℕ → ℕ → Entry → ℕ
on_sheets operator sign entry = cond (eqb entry.sign sign) (cond (eqb operator entry.operator && leb first_count entry.figure) entry.value 0) 0

all_on_sheets : ℕ → ℕ → List Entry → ℕ
all_on_sheets operator sign [] = 0
all_on_sheets operator sign (entry ∷ rest) = on_sheets operator sign entry + all_on_sheets operator sign rest

module _ (sign : ℕ) (part : History → ℕ → ℕ → ℕ → ℕ) (side : Side sign part) (operator : ℕ) where
  abbrev counted : History → ℕ
  counted h = fifteen (part h operator)

  summed-is : (h : History) (entry : Entry) (y f : ℕ)
      → summed entry (part h) operator y f
      ≡ part h operator y f + cond (eqb operator entry.operator && eqb y entry.year && eqb f entry.figure) entry.value 0
  unfolding summed
  summed-is h entry y f = go (eqb operator entry.operator && eqb y entry.year && eqb f entry.figure)
    where
      go : (t : Bool) → cond t (part h operator y f + entry.value) (part h operator y f) ≡ part h operator y f + cond t entry.value 0
      go true = refl
      go false = omega arith

  one-counted : (h : History) (entry : Entry) → Within electricity entry → counted (with_entry h entry) ≡ counted h + on_sheets operator sign entry
  one-counted h entry within =
      fifteen-same (part (with_entry h entry) operator) _ (λ y f ly lf. side.entered h entry within.sign_le operator y f) ∙ go (eqb entry.sign sign)
    where
      go : (t : Bool)
          → fifteen (λ y f. cond t (summed entry (part h) operator y f) (part h operator y f))
          ≡ counted h + cond t (cond (eqb operator entry.operator && leb first_count entry.figure) entry.value 0) 0
      go true =
          fifteen-same _ _ (λ y f ly lf. summed-is h entry y f)
          ∙ fifteen-added (part h operator) (λ y f. cond (eqb operator entry.operator && eqb y entry.year && eqb f entry.figure) entry.value 0)
          ∙ ap (λ (n : ℕ). counted h + n) (fifteen-one (eqb operator entry.operator) entry.year entry.figure entry.value within.year_lt within.figure_lt)
      go false = omega arith

  entries-counted : (list : List Entry) (h : History) → All (Within electricity) list → counted (with_entries h list) ≡ counted h + all_on_sheets operator sign list
  unfolding with_entries all_on_sheets
  entries-counted [] h within = omega arith
  entries-counted (entry ∷ rest) h within =
      entries-counted rest (with_entry h entry) within.1 ∙ omega (arith, one-counted h entry within.0)

-- tests the other way round
eqb-sym : (m n : ℕ) → eqb m n ≡ eqb n m
eqb-sym m n = go (ℕ_discrete m n)
  where
    go : Dec (m ≡ n) → eqb m n ≡ eqb n m
    go (yes e) = rw e refl
    go (no other) = rw (ne_eqb m n other, ne_eqb n m (λ e. other (sym e))) refl

-- what an accepted call adds
abbrev call_on_sheets : ℕ → ℕ → Call → ℕ
call_on_sheets operator sign call = as_interruption operator sign call + as_amount operator sign call

module _ (operator sign : ℕ) where
  -- an entry of another figure adds nothing, one of figures 8 to 12 its value, if operator and sign are the same
  measure-on : (one : Entry) → one.figure < first_count → on_sheets operator sign one ≡ 0
  measure-on one lt = rw (lt-leb first_count one.figure lt, and-false-right (eqb operator one.operator)) (go (eqb one.sign sign))
    where
      go : (t : Bool) → ◌≡◌ {A = ℕ} (cond t 0 0) 0
      go true = refl
      go false = refl

  count-on : (one : Entry) → first_count ≤ one.figure → on_sheets operator sign one ≡ cond (eqb one.operator operator && eqb one.sign sign) one.value 0
  count-on one le =
      rw (le-leb first_count one.figure le, and-true-right (eqb operator one.operator), eqb-sym operator one.operator)
      (go (eqb one.operator operator) (eqb one.sign sign))
    where
      go : (s t : Bool) → cond t (cond s one.value 0) 0 ≡ cond (s && t) one.value 0
      go true true = refl
      go true false = refl
      go false true = refl
      go false false = refl

  -- an interruption adds 1 at the figure of its outcome
  interruption-on : (o s level weight seconds year cause : ℕ) (t u : Bool) → level ≤ 1
      → all_on_sheets operator sign (interruption_entries o s level weight seconds year (cond t left_out_as_short (cond u (left_out_under cause) (counted_in year))))
      ≡ cond (eqb o operator && eqb s sign) 1 0
  unfolding all_on_sheets interruption_entries measured_entries count_figure
  interruption-on o s level weight seconds year cause true u ll = omega (arith, count-on (entry o year (first_count + 1) s 1) (omega arith))
  interruption-on o s level weight seconds year cause false true ll = omega (arith, count-on (entry o year (first_count + 1 + cause) s 1) (omega arith))
  interruption-on o s level weight seconds year cause false false ll =
      omega (
        arith,
        measure-on (entry o year (2 * level) s weight) (omega (arith, ll)),
        measure-on (entry o year (2 * level + 1) s (weight * seconds)) (omega (arith, ll)),
        count-on (entry o year first_count s 1) (omega arith),
      )

  amount-on : (o year figure s value : ℕ) → figure < figure_count
      → on_sheets operator sign (entry o year figure s value) ≡ cond (eqb o operator && eqb s sign && leb first_count figure && leb figure 12) value 0
  amount-on o year figure s value lt = rw (le-leb figure 12 (omega (arith, lt)), and-true-right) (go (ℕ-below figure first_count))
    where
      ℕ-below : (n bound : ℕ) → (n < bound) ⊎ (bound ≤ n)
      ℕ-below n bound = below (leb bound n) refl
        where
          below : (t : Bool) → leb bound n ≡ t → (n < bound) ⊎ (bound ≤ n)
          below true e = inr (leb-true bound n e)
          below false e = inl (leb-false bound n e)

      go : (figure < first_count) ⊎ (first_count ≤ figure)
          → on_sheets operator sign (entry o year figure s value) ≡ cond (eqb o operator && eqb s sign && leb first_count figure) value 0
      go (inl low) = measure-on (entry o year figure s value) low ∙ rw (lt-leb first_count figure low, and-false-right) refl
      go (inr high) = count-on (entry o year figure s value) high ∙ rw (le-leb first_count figure high, and-true-right) refl

  call-on : (call : Call) → Ranges electricity call → all_on_sheets operator sign (facts_of electricity call).entries ≡ call_on_sheets operator sign call
  unfolding all_on_sheets facts_of outcome as_interruption as_amount
  call-on (Join o) r = refl
  call-on (Setting o which value) r = refl
  call-on (Interruption o s level cause start end weight) r =
      interruption-on o s level weight (seconds_of start end) (year_of end) cause (leb (seconds_of start end) short_most) (leb 1 cause && leb cause 3) r.1 ∙ omega arith
  call-on (Amount o year figure s value) r = omega (arith, amount-on o year figure s value r.1)
  call-on (Mark o indicator mark) r = refl
  call-on (Rates pot cap) r = refl
  call-on (Index number value) r = refl

-- ---- lists of calls
module _ (sign : ℕ) (part : History → ℕ → ℕ → ℕ → ℕ) (side : Side sign part) (operator : ℕ) where
  call-counted : (h : History) (call : Call) → counted sign part side operator (note_history electricity h call)
      ≡ counted sign part side operator h + on_answer (λ (number : ℕ). 0) (λ (value : Acceptance). call_on_sheets operator sign call) (note_answer electricity h call)
  unfolding note_history note_answer on_answer
  call-counted h call = go (note_answer electricity h call) (decided electricity h.joined (total h) call)
    where
      go : (answer : Said Acceptance) → Decided electricity h.joined (total h) call answer
          → counted sign part side operator (on_answer (λ (number : ℕ). h) (λ (value : Acceptance). recorded electricity h call) answer)
          ≡ counted sign part side operator h + on_answer (λ (number : ℕ). 0) (λ (value : Acceptance). call_on_sheets operator sign call) answer
      go answer (inr (number, e)) = rw e (omega arith)
      go answer (inl (e, passed)) =
          rw (e, side.by_entries h call)
          (entries-counted sign part side operator (facts_of electricity call).entries h (entries-within electricity call passed.had passed.known passed.within_range)
          ∙ ap (λ (n : ℕ). counted sign part side operator h + n) (call-on operator sign call passed.within_range))

  calls-counted : (calls : List Call) (h : History)
      → counted sign part side operator (noted_history electricity h calls)
      ≡ counted sign part side operator h
      + (over_accepted (as_interruption operator sign) calls (noted_answers electricity h calls) + over_accepted (as_amount operator sign) calls (noted_answers electricity h calls))
  unfolding noted_history noted_answers over_accepted on_answer
  calls-counted [] h = omega arith
  calls-counted (call ∷ rest) h =
      calls-counted rest (note_history electricity h call) ∙ omega (arith, call-counted h call, parted (note_answer electricity h call))
    where
      parted : (answer : Said Acceptance)
          → on_answer (λ (number : ℕ). 0) (λ (value : Acceptance). call_on_sheets operator sign call) answer
          ≡ on_answer (λ (number : ℕ). 0) (λ (value : Acceptance). as_interruption operator sign call) answer
          + on_answer (λ (number : ℕ). 0) (λ (value : Acceptance). as_amount operator sign call) answer
      parted (refused_by number) = refl
      parted (accepted value) = refl

-- ---- the sheets of a list
module _ (calls : List Call) (operator : ℕ) (known : operator < operators) where
  abbrev h : History
  h = history_of electricity calls

  sheets-are-figures : sheets_total (book_of electricity calls) operator ≡ fifteen (figure_of (book_of electricity calls) operator)
  unfolding sheets_total counts_of
  sheets-are-figures =
      let shown : (y : ℕ) → y < years → sum (sheet_of (book_of electricity calls) operator y).counts ≡ row (figure_of (book_of electricity calls) operator y) = λ y ly. ap sum (counts-are-figures (book_of electricity calls) operator y (kept electricity calls).within_range known ly) in
      ap₂ ◌+◌ (ap₂ ◌+◌ (shown 0 (omega arith)) (shown 1 (omega arith))) (shown 2 (omega arith))

  -- a total is filed less withdrawn, which is no more
  less-withdrawn : fifteen (figure_of (book_of electricity calls) operator) + fifteen (h.withdrawn operator) ≡ fifteen (h.filed operator)
  unfolding total
  less-withdrawn =
      sym (fifteen-added (figure_of (book_of electricity calls) operator) (h.withdrawn operator))
      ∙ fifteen-same (λ y f. figure_of (book_of electricity calls) operator y f + h.withdrawn operator y f) (h.filed operator) (λ y f ly lf. omega (arith, (kept electricity calls).held.total operator y f known ly lf, (kept electricity calls).covered operator y f))

  pub sheets-add-up : SheetsAddUp (book_of electricity calls) calls operator
  sheets-add-up =
      let filed = calls-counted 0 (λ g. g.filed) filed-side operator calls plain in
      let withdrawn = calls-counted 1 (λ g. g.withdrawn) withdrawn-side operator calls plain in
      rw sheets-are-figures (omega (arith, less-withdrawn, filed, withdrawn, none-filed, none-withdrawn))
    where
      none-filed : fifteen (plain.filed operator) ≡ 0
      none-filed = fifteen-same (plain.filed operator) (λ y f. 0) (λ y f ly lf. ap (λ (part : ℕ → ℕ → ℕ → ℕ). part operator y f) filed-side.none) ∙ rw row-none refl

      none-withdrawn : fifteen (plain.withdrawn operator) ≡ 0
      none-withdrawn = fifteen-same (plain.withdrawn operator) (λ y f. 0) (λ y f ly lf. ap (λ (part : ℕ → ℕ → ℕ → ℕ). part operator y f) withdrawn-side.none) ∙ rw row-none refl
