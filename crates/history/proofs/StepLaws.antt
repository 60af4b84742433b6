-- What one accepted call does to what a book holds is what it does to the history.
-- Assumes nothing.
use Prim.Native.Nat.{ℕ, ◌+◌, ◌-◌, ◌≤◌, ◌<◌}
use mathlib.Core.Path.{◌≡◌, refl, sym, ap, ◌∙◌}
use mathlib.Core.Logic.{◌≢◌}
use mathlib.Core.Bool.{Bool, true, false, cond, ◌&&◌}
use mathlib.Core.List.{List, [], ◌∷◌}
use native.Mathlib.Omega.{arith}
use lib.Dec.{eqb}
use lib.ListN.{get_or, set}
use borrow.Author.Tests.{eqb-true, eqb-false, eq-eqb, ne_eqb}
use Rattle.book.specs.declared.Book.{Book}
use Rattle.calls.specs.declared.Call.{Call}
use Rattle.calls.specs.declared.Call.TheVariants.{Join, Setting, Interruption, Amount, Mark, Rates, Index}
use Rattle.calls.specs.Limits.{operators, years, figure_count, setting_count, indicator_count, index_count}
use Rattle.calls.specs.Masks.{has, including, excluding, remasked}
use Rattle.calls.specs.Held.{Same}
use Rattle.calls.specs.Indicators.{Indicator, some, takes_mark}
use Rattle.calls.specs.Call.{Entry, facts_of}
use Rattle.book.specs.Book.{with_joined, is_joined, is_marked, setting_of, figure_of, index_of, held_by, setting_slot, figure_slot}
use Rattle.ledger.specs.Table.{total_at}
use Rattle.ledger.specs.Calls.{entered, enter_all, changed}
use Rattle.history.specs.History.{History, total, held_in, history_with_operators, at1, at2, summed, with_entry, with_entries, recorded}
use Rattle.calls.proofs.Flags.{and_left, and_right, and-true-right, and-false-right}
use Rattle.calls.proofs.MaskLaws.{has-zero, including-has, excluding-has}
use Rattle.book.proofs.Bounds.{Bounds}
use Rattle.book.proofs.TakenLaws.{Ranged}
use Rattle.ledger.proofs.UnattestedLaws.{unattested-at}
use Rattle.book.proofs.SlotLaws.{stored, setting-slot-lt, figure-slot-lt, same-setting-slot, same-figure-slot}
use Rattle.history.proofs.EntryLaws.{All, Within, Distinct, known-lt, member-there, entries-distinct}
use Rattle.history.proofs.TableLaws.{Passed, Enters, call_enters}
use Rattle.history.proofs.SameKept.{same-with-operators, same-with-settings, same-with-marks, same-with-rates, same-with-indices, same-with-figures}
use Rattle.history.proofs.BoundsKept.{join-ranged, setting-ranged, mark-ranged, rates-ranged, index-ranged, entry-ranged}

abbrev pub AllCovered : History → Type 0
AllCovered h = (operator year figure : ℕ) → h.withdrawn operator year figure ≤ h.filed operator year figure

-- what a book and a history keep from call to call
pub record Agrees (kind : List Indicator) (b : Book) (h : History) : Type 0 where
  pub ranged : Ranged kind b
  pub held : Same (held_by b) (held_in h)
  pub covered : AllCovered h

module _ (kind : List Indicator) (b : Book) (h : History) (within : Ranged kind b) (held : Same (held_by b) (held_in h)) where
  abbrev bounds : Bounds b
  bounds = within.bounds

  join-holds : (operator : ℕ) → Same (held_by (changed kind b (Join operator))) (held_in (recorded kind h (Join operator)))
  unfolding changed recorded is_joined is_marked at1
  join-holds operator =
      same-with-marks (with_joined b (including b.joined operator)) (history_with_operators h (at1 operator true h.joined))
      (same-with-operators b h held _ _ (λ o lt. including-has b.joined operator o ∙ ap (cond (eqb o operator) true) (held.joined o lt)))
      (changed kind b (Join operator)).marks (recorded kind h (Join operator)).mark
      (λ o i lo li.
      ap (λ (mask : ℕ). has mask o) (unattested-at kind b.marks operator i (rw bounds.marks.long li))
      ∙ go o i li (takes_mark kind i) refl (held.mark o i lo li))
    where
      by-operator : (o i : ℕ) (t : Bool) → is_marked b o i ≡ h.mark o i → cond t true (is_marked b o i) ≡ cond t true (h.mark o i)
      by-operator o i true e = refl
      by-operator o i false e = e

      -- nobody has a mark where the kind takes none
      none-marked : (o i : ℕ) (t : Bool) → i < indicator_count → takes_mark kind i ≡ false → is_marked b o i ≡ h.mark o i → has (get_or b.marks i 0) o ≡ cond t false (h.mark o i)
      none-marked o i true li none e = rw (within.marks i li none) (has-zero o)
      none-marked o i false li none e = e

      placed : (o i : ℕ) (t u : Bool) → takes_mark kind i ≡ t → cond u t (h.mark o i) ≡ cond u (takes_mark kind) (h.mark o) i
      placed o i t true taken = sym taken
      placed o i t false taken = refl

      go : (o i : ℕ) → i < indicator_count → (t : Bool) → takes_mark kind i ≡ t → is_marked b o i ≡ h.mark o i
          → has (cond t (including (get_or b.marks i 0) operator) (get_or b.marks i 0)) o ≡ cond (eqb o operator) (takes_mark kind) (h.mark o) i
      go o i li true taken e = including-has (get_or b.marks i 0) operator o ∙ by-operator o i (eqb o operator) e ∙ placed o i true (eqb o operator) taken
      go o i li false none e = none-marked o i (eqb o operator) li none e ∙ placed o i false (eqb o operator) none

  setting-holds : (operator which value : ℕ) → operator < operators → which < setting_count
      → Same (held_by (changed kind b (Setting operator which value))) (held_in (recorded kind h (Setting operator which value)))
  unfolding changed recorded setting_of at2
  setting-holds operator which value lo lw =
      same-with-settings b h held (changed kind b (Setting operator which value)).settings (recorded kind h (Setting operator which value)).setting
      (λ o w lt lt'.
      stored b.settings (setting_slot operator which) value (setting_slot o w) (rw bounds.settings.long (setting-slot-lt operator which lo lw))
      ∙ rw (same-setting-slot o w operator which lt' lw) (ap (cond (eqb o operator && eqb w which) value) (held.setting o w lt lt')))

  -- the mask of an indicator, with an operator in or out
  remasked-has : (operator indicator mark : ℕ) → indicator < indicator_count → (o i : ℕ)
      → has (get_or (set b.marks indicator (remasked (get_or b.marks indicator 0) operator mark)) i 0) o ≡ at2 operator indicator (eqb mark 1) (is_marked b) o i
  unfolding remasked is_marked at2
  remasked-has operator indicator mark li o i =
      ap (λ (m : ℕ). has m o) (stored b.marks indicator _ i (rw bounds.marks.long li)) ∙ go (eqb i indicator) (eqb mark 1) refl
    where
      old : ℕ
      old = get_or b.marks indicator 0

      same : eqb i indicator ≡ true → has old o ≡ is_marked b o i
      same e = rw (eqb-true i indicator e) refl

      go : (s t : Bool) → eqb i indicator ≡ s
          → has (cond s (cond t (including old operator) (excluding old operator)) (get_or b.marks i 0)) o
          ≡ cond (eqb o operator && s) t (is_marked b o i)
      go true true e = rw (and-true-right, ← same e) (including-has old operator o)
      go true false e = rw (and-true-right, ← same e) (excluding-has old operator o)
      go false t e = rw and-false-right refl

  mark-holds : (operator indicator mark : ℕ) → indicator < indicator_count
      → Same (held_by (changed kind b (Mark operator indicator mark))) (held_in (recorded kind h (Mark operator indicator mark)))
  unfolding changed recorded at2
  mark-holds operator indicator mark li =
      same-with-marks b h held (changed kind b (Mark operator indicator mark)).marks (recorded kind h (Mark operator indicator mark)).mark
      (λ o i lt lt'. remasked-has operator indicator mark li o i ∙ ap (cond (eqb o operator && eqb i indicator) (eqb mark 1)) (held.mark o i lt lt'))

  rates-holds : (pot cap : ℕ) → Same (held_by (changed kind b (Rates pot cap))) (held_in (recorded kind h (Rates pot cap)))
  unfolding changed recorded
  rates-holds pot cap = same-with-rates b h held pot cap

  index-holds : (number value : ℕ) → number < index_count → Same (held_by (changed kind b (Index number value))) (held_in (recorded kind h (Index number value)))
  unfolding changed recorded index_of at1
  index-holds number value ln =
      same-with-indices b h held (changed kind b (Index number value)).indices (recorded kind h (Index number value)).index
      (λ n lt. stored b.indices number value n (rw bounds.indices.long ln) ∙ ap (cond (eqb n number) value) (held.index n lt))

-- whether an entry is one of this place
abbrev here : Entry → ℕ → ℕ → ℕ → Bool
here entry k y f = eqb k entry.operator && eqb y entry.year && eqb f entry.figure

at_place : (entry : Entry) (k y f : ℕ) → here entry k y f ≡ true → (k ≡ entry.operator) × (y ≡ entry.year) × (f ≡ entry.figure)
at_place entry k y f e =
    let place : eqb k entry.operator && eqb y entry.year ≡ true = and_left _ (eqb f entry.figure) e in (
      eqb-true k _ (and_left _ (eqb y entry.year) place),
      eqb-true y _ (and_right (eqb k entry.operator) _ place),
      eqb-true f _ (and_right (eqb k entry.operator && eqb y entry.year) _ e),
    )

-- one entry
module _ (kind : List Indicator) (b : Book) (h : History) (now : Agrees kind b h) (entry : Entry) (enters : Enters kind h.joined (total h) entry) where
  abbrev w : Within kind entry
  w = enters.within

  held-here : (o y f : ℕ) → here entry o y f ≡ true → total_at (total h) entry ≡ h.filed o y f - h.withdrawn o y f
  unfolding total
  held-here o y f e =
      let (operator-is, year-is, figure-is) = at_place entry o y f e in
      rw (operator-is, year-is, figure-is) refl

  -- the history's total after it
  entry-total : (o y f : ℕ) (t u : Bool) → eqb entry.sign 0 ≡ t → here entry o y f ≡ u
      → cond u (cond t (total_at (total h) entry + entry.value) (total_at (total h) entry - entry.value)) (total h o y f)
      ≡ cond t (cond u (h.filed o y f + entry.value) (h.filed o y f)) (h.filed o y f)
      - cond t (h.withdrawn o y f) (cond u (h.withdrawn o y f + entry.value) (h.withdrawn o y f))
  unfolding total
  entry-total o y f true true s e = omega (arith, held-here o y f e, now.covered o y f)
  entry-total o y f false true s e = omega (arith, held-here o y f e)
  entry-total o y f true false s e = refl
  entry-total o y f false false s e = refl

  summed-total : (o y f : ℕ) → total (with_entry h entry) o y f
      ≡ cond (here entry o y f)
      (cond (eqb entry.sign 0) (total_at (total h) entry + entry.value) (total_at (total h) entry - entry.value))
      (total h o y f)
  unfolding total with_entry summed
  summed-total o y f = sym (go (eqb entry.sign 0)) ∙ sym (entry-total o y f (eqb entry.sign 0) (here entry o y f) refl refl)
    where
      go : (t : Bool)
          → cond t (cond (here entry o y f) (h.filed o y f + entry.value) (h.filed o y f)) (h.filed o y f)
          - cond t (h.withdrawn o y f) (cond (here entry o y f) (h.withdrawn o y f + entry.value) (h.withdrawn o y f))
          ≡ cond t (summed entry h.filed) h.filed o y f - cond t h.withdrawn (summed entry h.withdrawn) o y f
      go true = refl
      go false = refl

  -- the book's figure is the history's total
  figure-is : figure_of b entry.operator entry.year entry.figure ≡ total_at (total h) entry
  figure-is = now.held.total _ _ _ w.operator_lt w.year_lt w.figure_lt

  enters-book : Enters kind (is_joined b) (figure_of b) entry
  enters-book =
      record {
        within = w;
        there = now.held.joined _ w.operator_lt ∙ enters.there;
        fits = λ filed. rw figure-is (enters.fits filed);
        covers = λ withdrawn. rw figure-is (enters.covers withdrawn);
      }

  -- the book's figure after it
  entered-figure : (o y f : ℕ) → y < years → f < figure_count
      → figure_of (entered b entry) o y f
      ≡ cond (here entry o y f)
      (cond (eqb entry.sign 0)
      (figure_of b entry.operator entry.year entry.figure + entry.value)
      (figure_of b entry.operator entry.year entry.figure - entry.value))
      (figure_of b o y f)
  unfolding entered figure_of
  entered-figure o y f ly lf =
      stored b.figures (figure_slot entry.operator entry.year entry.figure) _ (figure_slot o y f)
      (rw now.ranged.bounds.figures.long (figure-slot-lt entry.operator entry.year entry.figure w.operator_lt w.year_lt w.figure_lt))
      ∙ rw (same-figure-slot o y f entry.operator entry.year entry.figure ly lf w.year_lt w.figure_lt) refl

  entry-holds : Same (held_by (entered b entry)) (held_in (with_entry h entry))
  unfolding entered with_entry figure_of total
  entry-holds =
      same-with-figures b h now.held (entered b entry).figures (with_entry h entry).filed (with_entry h entry).withdrawn
      (λ o y f lo ly lf. entered-figure o y f ly lf ∙ rw (figure-is, now.held.total o y f lo ly lf) (sym (summed-total o y f)))

  -- what is withdrawn has been filed
  entry-covered : AllCovered (with_entry h entry)
  unfolding with_entry summed total
  entry-covered o y f = go (eqb entry.sign 0) (here entry o y f) refl refl
    where
      go : (t u : Bool) → eqb entry.sign 0 ≡ t → here entry o y f ≡ u
          → cond t h.withdrawn (λ k x g. cond (here entry k x g) (h.withdrawn k x g + entry.value) (h.withdrawn k x g)) o y f
          ≤ cond t (λ k x g. cond (here entry k x g) (h.filed k x g + entry.value) (h.filed k x g)) h.filed o y f
      go true true s e = rw e (omega (arith, now.covered o y f))
      go true false s e = rw e (now.covered o y f)
      go false true s e =
          let one : eqb entry.sign 1 ≡ true = eq-eqb entry.sign 1 (omega (arith, w.sign_le, eqb-false entry.sign 0 s)) in
          rw e (omega (arith, enters.covers one, held-here o y f e, now.covered o y f))
      go false false s e = rw e (now.covered o y f)

  entry-agrees : Agrees kind (entered b entry) (with_entry h entry)
  entry-agrees = record { ranged = entry-ranged kind b now.ranged entry enters-book; held = entry-holds; covered = entry-covered }

  -- entries at other figures can be made as before
  still-total : (other : Entry) → other.figure ≢ entry.figure → total_at (total (with_entry h entry)) other ≡ total_at (total h) other
  still-total other apart =
      summed-total other.operator other.year other.figure
      ∙ rw (ne_eqb other.figure entry.figure apart, and-false-right) refl

  still-enters : (other : Entry) → other.figure ≢ entry.figure → Enters kind h.joined (total h) other
      → Enters kind (with_entry h entry).joined (total (with_entry h entry)) other
  unfolding with_entry
  still-enters other apart before =
      record {
        within = before.within;
        there = before.there;
        fits = λ filed. rw (still-total other apart) (before.fits filed);
        covers = λ withdrawn. rw (still-total other apart) (before.covers withdrawn);
      }

  all-still-enter : (list : List Entry) → All (λ (other : Entry). other.figure ≢ entry.figure) list → All (Enters kind h.joined (total h)) list
      → All (Enters kind (with_entry h entry).joined (total (with_entry h entry))) list
  all-still-enter [] apart all = tt
  all-still-enter (other ∷ rest) apart all = (still-enters other apart.0 all.0, all-still-enter rest apart.1 all.1)

-- the entries of a call
entries-agree : (kind : List Indicator) (list : List Entry) (b : Book) (h : History) → Agrees kind b h → Distinct list → All (Enters kind h.joined (total h)) list
    → Agrees kind (enter_all b list) (with_entries h list)
unfolding enter_all with_entries
entries-agree kind [] b h now distinct all = now
entries-agree kind (entry ∷ rest) b h now distinct all =
    entries-agree kind rest (entered b entry) (with_entry h entry) (entry-agrees kind b h now entry all.0) distinct.1
    (all-still-enter kind b h now entry all.0 rest distinct.0 all.1)

-- an accepted call
module _ (kind : List Indicator) (b : Book) (h : History) (now : Agrees kind b h) where
  member-joined : (operator : ℕ) → operator < operators → h.joined operator ≡ true → is_joined b operator ≡ true
  member-joined operator lt there = now.held.joined operator lt ∙ there

  pub changed-agrees : (call : Call) → Passed kind h.joined (total h) call → Agrees kind (changed kind b call) (recorded kind h call)
  unfolding facts_of some changed recorded
  changed-agrees (Join operator) passed =
      record {
        ranged = join-ranged kind b now.ranged operator (known-lt operator passed.known);
        held = join-holds kind b h now.ranged now.held operator;
        covered = now.covered;
      }
  changed-agrees (Setting operator which value) passed =
      let lt = known-lt operator passed.known in
      record {
        ranged = setting-ranged kind b now.ranged operator which value (member-joined operator lt (member-there _ passed.present)) passed.within_range.0 passed.within_range.1 passed.within_range.2;
        held = setting-holds kind b h now.ranged now.held operator which value lt passed.within_range.0;
        covered = now.covered;
      }
  changed-agrees (Interruption operator sign level cause start end weight) passed =
      let call : Call = Interruption operator sign level cause start end weight in
      entries-agree kind (facts_of kind call).entries b h now (entries-distinct kind call passed.within_range) (call_enters kind h.joined (total h) call passed)
  changed-agrees (Amount operator year figure sign value) passed =
      let call : Call = Amount operator year figure sign value in
      entries-agree kind (facts_of kind call).entries b h now (entries-distinct kind call passed.within_range) (call_enters kind h.joined (total h) call passed)
  changed-agrees (Mark operator indicator mark) passed =
      let lt = known-lt operator passed.known in
      record {
        ranged = mark-ranged kind b now.ranged operator indicator mark lt (member-joined operator lt (member-there _ passed.present)) passed.within_range.0 passed.within_range.2;
        held = mark-holds kind b h now.ranged now.held operator indicator mark passed.within_range.0;
        covered = now.covered;
      }
  changed-agrees (Rates pot cap) passed =
      record {
        ranged = rates-ranged kind b now.ranged pot cap passed.within_range.0 passed.within_range.1;
        held = rates-holds kind b h now.ranged now.held pot cap;
        covered = now.covered;
      }
  changed-agrees (Index number value) passed =
      record {
        ranged = index-ranged kind b now.ranged number value passed.within_range.1 passed.within_range.2;
        held = index-holds kind b h now.ranged now.held number value passed.within_range.0;
        covered = now.covered;
      }
