-- Each change of a book in range leaves a book in range: the values that stay, and the one that moves.
-- Assumes nothing.
use Prim.Native.Nat.{ℕ, ◌+◌, ◌-◌, ◌^◌, ◌≤◌, ◌<◌}
use mathlib.Core.Path.{◌≡◌, refl, sym, ◌∙◌}
use mathlib.Core.Logic.{◌≢◌}
use mathlib.Core.Bool.{Bool, true, false, cond, false≢true}
use mathlib.Core.List.{List}
use native.Mathlib.Omega.{arith}
use native.Mathlib.Decide.{ℕ_discrete}
use lib.Dec.{eqb}
use lib.ListN.{get_or, set, length-set}
use Rattle.book.specs.declared.Book.{Book}
use Rattle.calls.specs.declared.Call.TheVariants.{Join, Setting, Mark, Rates, Index}
use Rattle.calls.specs.Limits.{operators, setting_count, indicator_count, setting_limit, figure_limit, rate_limit, index_least, index_most}
use Rattle.calls.specs.Masks.{has, including, excluding, remasked}
use Rattle.calls.specs.Indicators.{Indicator, takes_setting, takes_figure, takes_mark}
use Rattle.calls.specs.Call.{Entry}
use Rattle.book.specs.Book.{is_joined, figure_of, setting_slot, figure_slot, most}
use Rattle.ledger.specs.Calls.{unattested, entered, changed}
use Rattle.calls.proofs.MaskLaws.{including-has, including-other, including-lt, excluding-other, excluding-le}
use Rattle.book.proofs.Bounds.{Bounds, bounds-with-joined, bounds-with-marks, bounds-with-settings, bounds-with-figures, bounds-with-rates, bounds-with-indices}
use Rattle.book.proofs.TakenLaws.{Ranged}
use Rattle.book.proofs.SlotLaws.{store-holds}
use Rattle.ledger.proofs.UnattestedLaws.{unattested-long, unattested-at}
use Rattle.history.proofs.TableLaws.{Enters}

-- the mark of one operator leaves the others'
remasked-other : (mask operator mark o : ℕ) → o ≢ operator → has (remasked mask operator mark) o ≡ has mask o
unfolding remasked
remasked-other mask operator mark o other = go (eqb mark 1)
  where
    go : (t : Bool) → has (cond t (including mask operator) (excluding mask operator)) o ≡ has mask o
    go true = including-other mask operator o other
    go false = excluding-other mask operator o other

remasked-lt : (mask operator mark : ℕ) → operator < operators → mask < 2 ^ 16 → remasked mask operator mark < 2 ^ 16
unfolding remasked
remasked-lt mask operator mark lo small = go (eqb mark 1)
  where
    go : (t : Bool) → cond t (including mask operator) (excluding mask operator) < 2 ^ 16
    go true = including-lt mask operator 16 small lo
    go false = omega (arith, excluding-le mask operator, small)

-- a mask with a number more has what it had
including-keeps : (mask operator o : ℕ) → has mask o ≡ true → has (including mask operator) o ≡ true
including-keeps mask operator o held = rw (including-has mask operator o, held) (go (eqb o operator))
  where
    go : (t : Bool) → cond t true true ≡ true
    go true = refl
    go false = refl

-- a number more in two masks of which one holds what is in the other
included-both : (mask whole operator o : ℕ) → (has mask o ≡ true → has whole o ≡ true) → has (including mask operator) o ≡ true → has (including whole operator) o ≡ true
included-both mask whole operator o inside held = rw (including-has whole operator o) (go (eqb o operator) (sym (including-has mask operator o) ∙ held))
  where
    go : (t : Bool) → cond t true (has mask o) ≡ true → cond t true (has whole o) ≡ true
    go true e = refl
    go false e = inside e

-- what a joined operator may hold
most-joined : (joined operator limit n : ℕ) → has joined operator ≡ true → n ≤ limit → n ≤ most joined operator limit
unfolding most
most-joined joined operator limit n there le = rw there le

-- a place that is taken holds what it may
not-both : {t : Bool} → t ≡ true → t ≡ false → ⊥
not-both taken none = false≢true (sym none ∙ taken)

module _ (kind : List Indicator) (b : Book) (now : Ranged kind b) where
  abbrev bounds : Bounds b
  bounds = now.bounds

  -- the mask of an indicator after a join
  newly : (operator i : ℕ) → i < indicator_count → get_or (unattested kind b.marks operator) i 0
      ≡ cond (takes_mark kind i) (including (get_or b.marks i 0) operator) (get_or b.marks i 0)
  newly operator i li = unattested-at kind b.marks operator i (rw bounds.marks.long li)

  pub join-ranged : (operator : ℕ) → operator < operators → Ranged kind (changed kind b (Join operator))
  unfolding changed
  join-ranged operator lo =
      record {
        bounds =
            bounds-with-marks
            (bounds-with-joined bounds (including b.joined operator) (including-lt b.joined operator 16 bounds.joined lo) (including-keeps b.joined operator))
            _
            (record {
              long = unattested-long kind b.marks operator ∙ bounds.marks.long;
              small = λ i li. rw (newly operator i li) (newly-small i li (takes_mark kind i));
              members = λ o i lo' li marked. newly-joined o i lo' li (takes_mark kind i) (rw (newly operator i li) at marked);
            });
        marks = λ i li none. rw (newly operator i li, none) (now.marks i li none);
        settings = now.settings;
        figures = now.figures;
      }
    where
      newly-small : (i : ℕ) → i < indicator_count → (t : Bool) → cond t (including (get_or b.marks i 0) operator) (get_or b.marks i 0) < 2 ^ 16
      newly-small i li true = including-lt (get_or b.marks i 0) operator 16 (bounds.marks.small i li) lo
      newly-small i li false = bounds.marks.small i li

      newly-joined : (o i : ℕ) → o < operators → i < indicator_count → (t : Bool)
          → has (cond t (including (get_or b.marks i 0) operator) (get_or b.marks i 0)) o ≡ true → has (including b.joined operator) o ≡ true
      newly-joined o i lo' li true marked = included-both (get_or b.marks i 0) b.joined operator o (bounds.marks.members o i lo' li) marked
      newly-joined o i lo' li false marked = including-keeps b.joined operator o (bounds.marks.members o i lo' li marked)

  pub setting-ranged : (operator which value : ℕ) → is_joined b operator ≡ true → which < setting_count → value ≤ setting_limit which → takes_setting kind which ≡ true
      → Ranged kind (changed kind b (Setting operator which value))
  unfolding changed is_joined setting_slot
  setting-ranged operator which value joined lw le taken =
      record {
        bounds =
            bounds-with-settings bounds _
            (record {
              long = length-set b.settings _ _ ∙ bounds.settings.long;
              within = λ o w lo lw'.
                  store-holds (λ n. n ≤ most b.joined o (setting_limit w)) b.settings (setting_slot operator which) value (setting_slot o w)
                  (λ same.
                  let operator-is : o ≡ operator = omega (arith, same) in
                  let which-is : w ≡ which = omega (arith, same) in
                  rw (operator-is, which-is) (most-joined b.joined operator (setting_limit which) value joined le))
                  (bounds.settings.within o w lo lw');
            });
        marks = now.marks;
        settings = λ o w lo lw' none.
            store-holds (λ n. n ≡ 0) b.settings (setting_slot operator which) value (setting_slot o w)
            (λ same.
            let which-is : which ≡ w = omega (arith, same) in
            absurd (not-both (rw which-is at taken) none))
            (now.settings o w lo lw' none);
        figures = now.figures;
      }

  pub mark-ranged : (operator indicator mark : ℕ) → operator < operators → is_joined b operator ≡ true → indicator < indicator_count → takes_mark kind indicator ≡ true
      → Ranged kind (changed kind b (Mark operator indicator mark))
  unfolding changed is_joined
  mark-ranged operator indicator mark lo joined li taken =
      record {
        bounds =
            bounds-with-marks bounds _
            (record {
              long = length-set b.marks _ _ ∙ bounds.marks.long;
              small = λ i li'.
                  store-holds (λ m. m < 2 ^ 16) b.marks indicator new i
                  (λ same. remasked-lt (get_or b.marks indicator 0) operator mark lo (bounds.marks.small indicator li))
                  (bounds.marks.small i li');
              members = λ o i lo' li'.
                  store-holds (λ m. has m o ≡ true → has b.joined o ≡ true) b.marks indicator new i (λ same. remarked o lo' (ℕ_discrete o operator))
                  (bounds.marks.members o i lo' li');
            });
        marks = λ i li' none. store-holds (λ m. m ≡ 0) b.marks indicator new i (λ same. absurd (not-both (rw (sym same) at taken) none)) (now.marks i li' none);
        settings = now.settings;
        figures = now.figures;
      }
    where
      new : ℕ
      new = remasked (get_or b.marks indicator 0) operator mark

      -- the operator itself has joined, another's mark is as it was
      remarked : (o : ℕ) → o < operators → Dec (o ≡ operator) → has new o ≡ true → has b.joined o ≡ true
      remarked o lo' (yes same) marked = rw same joined
      remarked o lo' (no other) marked = bounds.marks.members o indicator lo' li (rw (remasked-other (get_or b.marks indicator 0) operator mark o other) at marked)

  pub rates-ranged : (pot cap : ℕ) → pot ≤ rate_limit → cap ≤ rate_limit → Ranged kind (changed kind b (Rates pot cap))
  unfolding changed
  rates-ranged pot cap pot-le cap-le =
      record {
        bounds = bounds-with-rates bounds pot cap (record { pot_rate = pot-le; cap_rate = cap-le });
        marks = now.marks;
        settings = now.settings;
        figures = now.figures;
      }

  pub index-ranged : (number value : ℕ) → index_least ≤ value → value ≤ index_most → Ranged kind (changed kind b (Index number value))
  unfolding changed
  index-ranged number value least greatest =
      record {
        bounds =
            bounds-with-indices bounds _
            (record {
              long = length-set b.indices _ _ ∙ bounds.indices.long;
              within = λ n lt.
                  store-holds (λ v. (index_least ≤ v) × (v ≤ index_most)) b.indices number value n (λ same. (least, greatest)) (bounds.indices.within n lt);
            });
        marks = now.marks;
        settings = now.settings;
        figures = now.figures;
      }

  -- the figure that an entry makes
  moved-le : (entry : Entry) → Enters kind (is_joined b) (figure_of b) entry → (t : Bool) → eqb entry.sign 0 ≡ t
      → cond t
      (figure_of b entry.operator entry.year entry.figure + entry.value)
      (figure_of b entry.operator entry.year entry.figure - entry.value)
      ≤ most b.joined entry.operator figure_limit
  unfolding is_joined figure_of
  moved-le entry enters true filed = most-joined b.joined entry.operator figure_limit _ enters.there (enters.fits filed)
  moved-le entry enters false filed =
      let w = enters.within in
      omega (arith, bounds.figures.within entry.operator entry.year entry.figure w.operator_lt w.year_lt w.figure_lt)

  pub entry-ranged : (entry : Entry) → Enters kind (is_joined b) (figure_of b) entry → Ranged kind (entered b entry)
  unfolding entered figure_of figure_slot
  entry-ranged entry enters =
      record {
        bounds =
            bounds-with-figures bounds _
            (record {
              long = length-set b.figures _ _ ∙ bounds.figures.long;
              within = λ o y f lo ly lf.
                  store-holds (λ n. n ≤ most b.joined o figure_limit) b.figures (figure_slot entry.operator entry.year entry.figure) _ (figure_slot o y f)
                  (λ same.
                  let operator-is : o ≡ entry.operator = omega (arith, same, enters.within.year_lt, enters.within.figure_lt) in
                  rw operator-is (moved-le entry enters (eqb entry.sign 0) refl))
                  (bounds.figures.within o y f lo ly lf);
            });
        marks = now.marks;
        settings = now.settings;
        figures = λ o y f lo ly lf none.
            store-holds (λ n. n ≡ 0) b.figures (figure_slot entry.operator entry.year entry.figure) _ (figure_slot o y f)
            (λ same.
            let figure-is : entry.figure ≡ f = omega (arith, same, enters.within.year_lt, enters.within.figure_lt) in
            absurd (not-both (rw figure-is at enters.within.taken) none))
            (now.figures o y f lo ly lf none);
      }
