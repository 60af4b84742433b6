-- Filing the calls that a book in range is written as, from a fresh book, is accepted throughout and leads to the book.
-- Assumes nothing.
use Prim.Native.Nat.{ℕ, suc, ◌+◌, ◌*◌, ◌^◌, ◌≤◌, ◌<◌}
use mathlib.Core.Path.{◌≡◌, refl, sym, ap, subst, ◌∙◌}
use mathlib.Core.Bool.{Bool, true, false, cond, not, ◌&&◌, false≢true}
use mathlib.Core.List.{List, [], ◌∷◌}
use native.Mathlib.Omega.{arith}
use lib.Dec.{eqb}
use lib.ListN.{length, get_or, replicate, get_or-replicate, length-replicate}
use lib.Seq.{ext_get_or}
use borrow.Author.Tests.{eqb-true, eqb-false}
use Rattle.calls.proofs.Flags.{and_left, and_right}
use Rattle.calls.proofs.MaskLaws.{has-zero}
use Rattle.book.specs.declared.Book.{Book}
use Rattle.calls.specs.declared.Call.{Call}
use Rattle.calls.specs.declared.Call.TheVariants.{Join, Setting, Amount, Mark, Rates, Index}
use Rattle.calls.specs.Limits.{operators, years, figure_count, setting_count, indicator_count, index_count, setting_places, operator_figures, figure_places, setting_limit, figure_limit, fresh_index}
use Rattle.calls.specs.Masks.{has, including}
use Rattle.calls.specs.Indicators.{Indicator, takes_setting, takes_figure, takes_mark}
use Rattle.calls.specs.Answers.{yes_said}
use Rattle.book.specs.Book.{with_joined, with_marks, with_settings, with_figures, with_rates, with_indices, fresh_book, is_joined, is_marked, setting_of, figure_of, index_of, setting_slot, figure_slot, most, in_range}
use Rattle.book.proofs.Bounds.{Bounds}
use Rattle.book.proofs.TakenLaws.{Ranged, ranged as to-ranged}
use Rattle.book.proofs.SlotLaws.{setting-slot-lt, figure-slot-lt}
use Rattle.history.proofs.Kept.{fresh-in-range}
use Rattle.ledger.specs.Calls.{map_from, unattested}
use Rattle.ledger.proofs.UnattestedLaws.{map-from-long, map-from-at, unattested-long, unattested-at}
use Rattle.ledger.proofs.AdmissionLaws.{accepted_call}
use Rattle.writing.specs.Written.{in_turn, unless_fresh, join_calls, setting_calls, amount_calls, mark_calls, index_calls, rate_calls, written_calls}
use Rattle.writing.proofs.Filings.{Leads, stays-ranged, leads-none, leads_one, leads-then, leads-turns, leads-rows}
use Rattle.book.proofs.Mixed.{mix, mix-set, mix-same, mix-at, mix_all}
use Rattle.writing.proofs.MixedMasks.{mix_bits, mix-bit-at, mix-bit-same, mix-cleared, mix-included, mix-no-bits, mix-all-bits}
use Rattle.writing.proofs.Accepting.{join-accepted, setting-accepted, amount-accepted, mark-accepted, index-accepted, rates-accepted}

-- fresh lists
abbrev no_settings : List ℕ
no_settings = replicate setting_places 0

abbrev no_figures : List ℕ
no_figures = replicate figure_places 0

abbrev fresh_indices : List ℕ
fresh_indices = replicate index_count fresh_index

-- a value above 0 is a joined operator's
joined-if : (t : Bool) (limit value : ℕ) → value ≤ cond t limit 0 → (value ≡ 0 → ⊥) → (t ≡ true) × (value ≤ limit)
joined-if true limit value le some = (refl, le)
joined-if false limit value le some = absurd (some (omega arith))

-- and at a place that the kind takes
taken-if : (t : Bool) (value : ℕ) → (t ≡ false → value ≡ 0) → (value ≡ 0 → ⊥) → t ≡ true
taken-if true value zero-if some = refl
taken-if false value zero-if some = absurd (some (zero-if refl))

-- the marks that joins leave: those who have joined, at every indicator of the kind
module _ (kind : List Indicator) where
  abbrev start : ℕ → ℕ → ℕ
  start joined indicator = cond (takes_mark kind indicator) joined 0

  joined_marks : ℕ → List ℕ
  joined_marks joined = map_from 0 (λ (indicator mask : ℕ). start joined indicator) (replicate indicator_count 0)

  joined-long : (joined : ℕ) → length (joined_marks joined) ≡ indicator_count
  unfolding joined_marks
  joined-long joined = map-from-long _ 0 (replicate indicator_count 0)

  joined_at : (joined i : ℕ) → i < indicator_count → get_or (joined_marks joined) i 0 ≡ start joined i
  unfolding joined_marks
  joined_at joined i li = map-from-at _ (replicate indicator_count 0) i li

  -- nobody has joined
  none-joined : joined_marks 0 ≡ replicate indicator_count 0
  none-joined =
      ext_get_or 0 (joined_marks 0) (replicate indicator_count 0) (joined-long 0)
      (λ i lt.
      let li : i < indicator_count = rw (joined-long 0) at lt in
      joined_at 0 i li ∙ go (takes_mark kind i) ∙ sym (get_or-replicate {A = ℕ} indicator_count i 0 0 li))
    where
      go : (t : Bool) → ◌≡◌ {A = ℕ} (cond t 0 0) 0
      go true = refl
      go false = refl

  -- one more has
  one-joined : (joined operator : ℕ) → unattested kind (joined_marks joined) operator ≡ joined_marks (including joined operator)
  one-joined joined operator =
      ext_get_or 0 (unattested kind (joined_marks joined) operator) (joined_marks (including joined operator))
      (unattested-long kind (joined_marks joined) operator ∙ joined-long joined ∙ sym (joined-long (including joined operator)))
      (λ i lt.
      let li : i < indicator_count = rw (unattested-long, joined-long) at lt in
      unattested-at kind (joined_marks joined) operator i (rw (joined-long joined) li)
      ∙ rw (joined_at joined i li) (go (takes_mark kind i)) ∙ sym (joined_at (including joined operator) i li))
    where
      go : (t : Bool) → cond t (including (cond t joined 0) operator) (cond t joined 0) ≡ cond t (including joined operator) 0
      go true = refl
      go false = refl

  -- a book after joins alone
  abbrev joined_book : ℕ → Book
  joined_book joined = with_marks (with_joined fresh_book joined) (joined_marks joined)

module _ (kind : List Indicator) (b : Book) (in-range-of-kind : in_range kind b ≡ true) where
  taken : Ranged kind b
  taken = to-ranged kind b in-range-of-kind

  bounds : Bounds b
  bounds = taken.bounds

  -- joins, bit by bit
  join_stage : ℕ → Book
  join_stage k = joined_book kind (mix_bits k b.joined 0)

  join_step : (k : ℕ) → k < operators → in_range kind (join_stage k) ≡ true
      → Leads kind (join_stage k) (cond (is_joined b k) (Join k ∷ []) []) (join_stage (suc k))
  unfolding join_stage is_joined
  join_step k lt within_range = go (has b.joined k) refl
    where
      go : (t : Bool) → has b.joined k ≡ t → Leads kind (join_stage k) (cond t (Join k ∷ []) []) (join_stage (suc k))
      go true e =
          leads_one kind (join_stage k) (Join k) (join_stage (suc k)) yes_said within_range
          (join-accepted kind (join_stage k) k lt (mix-bit-at b.joined 0 k ∙ has-zero k)
          ∙ rw (one-joined kind (mix_bits k b.joined 0) k)
          (ap (λ (mask : ℕ). accepted_call (joined_book kind mask) yes_said) (mix-included b.joined 0 k (has-zero k) e)))
      go false e =
          subst (λ (mask : ℕ). Leads kind (join_stage k) [] (joined_book kind mask)) (mix-bit-same b.joined 0 k (e ∙ sym (has-zero k))) (leads-none kind (join_stage k) within_range)

  fresh-joined : joined_book kind 0 ≡ fresh_book
  unfolding fresh_book
  fresh-joined = ap (λ (marks : List ℕ). with_marks fresh_book marks) (none-joined kind)

  joins-lead : Leads kind fresh_book (join_calls b) (joined_book kind b.joined)
  unfolding join_calls join_stage
  joins-lead =
      let whole = mix-all-bits operators b.joined 0 bounds.joined (omega arith) in
      let none = mix-no-bits b.joined 0 in
      rw (whole, none, fresh-joined) at (leads-turns kind operators _ join_stage (rw (none, fresh-joined) (fresh-in-range kind)) join_step)

  -- settings, place by place
  setting_stage : ℕ → Book
  setting_stage k = with_settings (joined_book kind b.joined) (mix k b.settings no_settings)

  setting-step : (operator which : ℕ) → operator < operators → which < setting_count → in_range kind (setting_stage (setting_slot operator which)) ≡ true
      → Leads kind (setting_stage (setting_slot operator which))
      (unless_fresh (setting_of b operator which) 0 (Setting operator which (setting_of b operator which)))
      (setting_stage (suc (setting_slot operator which)))
  unfolding setting_stage setting_of most is_joined
  setting-step operator which lo lw within_range = go (eqb (setting_of b operator which) 0) refl
    where
      k : ℕ
      k = setting_slot operator which

      value : ℕ
      value = get_or b.settings k 0

      inside : k < length b.settings
      inside = rw bounds.settings.long (setting-slot-lt operator which lo lw)

      long : length no_settings ≡ length b.settings
      long = sym bounds.settings.long

      go : (t : Bool) → eqb value 0 ≡ t → Leads kind (setting_stage k) (cond t [] (Setting operator which value ∷ [])) (setting_stage (suc k))
      go true e =
          let same = mix-same b.settings no_settings long k inside (eqb-true value 0 e ∙ sym (get_or-replicate {A = ℕ} setting_places k 0 0 (setting-slot-lt operator which lo lw))) in
          rw same (leads-none kind (setting_stage (suc k)) (rw (← same) within_range))
      go false e =
          let may = joined-if (has b.joined operator) (setting_limit which) value (bounds.settings.within operator which lo lw) (eqb-false value 0 e) in
          let has-place = taken-if (takes_setting kind which) value (taken.settings operator which lo lw) (eqb-false value 0 e) in
          leads_one kind (setting_stage k) (Setting operator which value) (setting_stage (suc k)) yes_said within_range
          (setting-accepted kind (setting_stage k) operator which value lo lw may.1 has-place may.0 ∙ rw (mix-set b.settings no_settings long k inside) refl)

  settings-lead : in_range kind (setting_stage 0) ≡ true → Leads kind (setting_stage 0) (setting_calls b) (setting_stage setting_places)
  unfolding setting_calls setting_slot
  settings-lead within_range = leads-rows kind operators setting_count _ setting_stage within_range (λ o w lo lw here. setting-step o w lo lw here)

  -- a book after joins and settings
  abbrev settings_book : Book
  settings_book = with_settings (joined_book kind b.joined) b.settings

  -- figures, place by place
  figure_stage : ℕ → Book
  figure_stage k = with_figures settings_book (mix k b.figures no_figures)

  figure-step : (operator year figure : ℕ) → operator < operators → year < years → figure < figure_count
      → in_range kind (figure_stage (figure_slot operator year figure)) ≡ true
      → Leads kind (figure_stage (figure_slot operator year figure))
      (unless_fresh (figure_of b operator year figure) 0 (Amount operator year figure 0 (figure_of b operator year figure)))
      (figure_stage (suc (figure_slot operator year figure)))
  unfolding figure_stage figure_of most is_joined
  figure-step operator year figure lo ly lf within_range = go (eqb (figure_of b operator year figure) 0) refl
    where
      k : ℕ
      k = figure_slot operator year figure

      value : ℕ
      value = get_or b.figures k 0

      inside : k < length b.figures
      inside = rw bounds.figures.long (figure-slot-lt operator year figure lo ly lf)

      long : length no_figures ≡ length b.figures
      long = sym bounds.figures.long

      fresh : get_or no_figures k 0 ≡ 0
      fresh = get_or-replicate {A = ℕ} figure_places k 0 0 (figure-slot-lt operator year figure lo ly lf)

      go : (t : Bool) → eqb value 0 ≡ t → Leads kind (figure_stage k) (cond t [] (Amount operator year figure 0 value ∷ [])) (figure_stage (suc k))
      go true e =
          let same = mix-same b.figures no_figures long k inside (eqb-true value 0 e ∙ sym fresh) in
          rw same (leads-none kind (figure_stage (suc k)) (rw (← same) within_range))
      go false e =
          let may = joined-if (has b.joined operator) figure_limit value (bounds.figures.within operator year figure lo ly lf) (eqb-false value 0 e) in
          let has-place = taken-if (takes_figure kind figure) value (taken.figures operator year figure lo ly lf) (eqb-false value 0 e) in
          leads_one kind (figure_stage k) (Amount operator year figure 0 value) (figure_stage (suc k)) yes_said within_range
          (amount-accepted kind (figure_stage k) operator year figure value lo ly lf may.1 has-place may.0 (mix-at b.figures no_figures long k inside ∙ fresh)
          ∙ rw (mix-set b.figures no_figures long k inside) refl)

  figures-lead : in_range kind (figure_stage 0) ≡ true → Leads kind (figure_stage 0) (amount_calls b) (figure_stage figure_places)
  unfolding amount_calls figure_slot
  figures-lead within_range = leads-turns kind operators _ (λ (o : ℕ). figure_stage (o * operator_figures)) within_range rows
    where
      calls : ℕ → ℕ → ℕ → List Call
      calls o y f = unless_fresh (figure_of b o y f) 0 (Amount o y f 0 (figure_of b o y f))

      rows : (o : ℕ) → o < operators → in_range kind (figure_stage (o * operator_figures)) ≡ true
          → Leads kind (figure_stage (o * operator_figures)) (in_turn years (λ (y : ℕ). in_turn figure_count (calls o y))) (figure_stage (suc o * operator_figures))
      rows o lo here =
          let first : o * operator_figures + 0 ≡ o * operator_figures = omega arith in
          let last : o * operator_figures + operator_figures ≡ suc o * operator_figures = omega arith in
          rw (first, last) at
          (leads-rows kind years figure_count (calls o) (λ (k : ℕ). figure_stage (o * operator_figures + k)) (rw first here)
          (λ y f ly lf there.
          let place : o * operator_figures + (y * figure_count + f) ≡ (o * years + y) * figure_count + f = omega arith in
          let next : o * operator_figures + suc (y * figure_count + f) ≡ suc ((o * years + y) * figure_count + f) = omega arith in
          rw (place, next) (figure-step o y f lo ly lf (rw place at there))))

  -- and after amounts
  abbrev figures_book : Book
  figures_book = with_figures settings_book b.figures

  -- marks, operator by operator, indicator by indicator: of the first operators as the book has them, of the others as their joins set them
  abbrev begun : ℕ → ℕ
  begun i = start kind b.joined i

  begun-small : (i : ℕ) → begun i < 2 ^ operators
  begun-small i = go (takes_mark kind i)
    where
      go : (t : Bool) → cond t b.joined 0 < 2 ^ operators
      go true = bounds.joined
      go false = omega arith

  part_marks : ℕ → List ℕ
  part_marks o = map_from 0 (λ (indicator mask : ℕ). mix_bits o mask (begun indicator)) b.marks

  mark_stage : ℕ → ℕ → Book
  mark_stage o i = with_marks figures_book (mix i (part_marks (suc o)) (part_marks o))

  part-long : (o : ℕ) → length (part_marks o) ≡ indicator_count
  unfolding part_marks
  part-long o = map-from-long _ 0 b.marks ∙ bounds.marks.long

  part_at : (o i : ℕ) → i < indicator_count → get_or (part_marks o) i 0 ≡ mix_bits o (get_or b.marks i 0) (begun i)
  unfolding part_marks
  part_at o i li = map-from-at _ b.marks i (rw bounds.marks.long li)

  mark-step : (o i : ℕ) → o < operators → i < indicator_count → in_range kind (mark_stage o i) ≡ true
      → Leads kind (mark_stage o i) (cond (is_joined b o && (takes_mark kind i && not (is_marked b o i))) (Mark o i 0 ∷ []) []) (mark_stage o (suc i))
  unfolding mark_stage is_marked is_joined
  mark-step o i lo li within_range = go (has b.joined o) (takes_mark kind i) (has mask o) refl refl refl
    where
      mask : ℕ
      mask = get_or b.marks i 0

      new : List ℕ
      new = part_marks (suc o)

      old : List ℕ
      old = part_marks o

      long : length old ≡ length new
      long = part-long o ∙ sym (part-long (suc o))

      inside : i < length new
      inside = rw (part-long (suc o)) li

      -- no call where the mark is as the join set it, or no one has joined, or the kind has none
      stays : has mask o ≡ has (begun i) o → Leads kind (mark_stage o i) [] (mark_stage o (suc i))
      stays e =
          let same = mix-same new old long i inside (part_at (suc o) i li ∙ sym (mix-bit-same mask (begun i) o e) ∙ sym (part_at o i li)) in
          rw same (leads-none kind (mark_stage o (suc i)) (rw (← same) within_range))

      -- where the kind has the indicator, the join has set the mark
      set-as : takes_mark kind i ≡ true → has (begun i) o ≡ has b.joined o
      set-as has-it = rw has-it refl

      -- where it has none, there is no mark
      no-mark : takes_mark kind i ≡ false → has mask o ≡ has (begun i) o
      no-mark none = rw (taken.marks i li none, none) refl

      go : (s u t : Bool) → has b.joined o ≡ s → takes_mark kind i ≡ u → has mask o ≡ t
          → Leads kind (mark_stage o i) (cond (s && (u && not t)) (Mark o i 0 ∷ []) []) (mark_stage o (suc i))
      go true false t joined has-it marked = stays (no-mark has-it)
      go false false t joined has-it marked = stays (no-mark has-it)
      go true true true joined has-it marked = stays (marked ∙ sym (set-as has-it ∙ joined))
      go false true false joined has-it marked = stays (marked ∙ sym (set-as has-it ∙ joined))
      go false true true joined has-it marked = absurd (false≢true (sym joined ∙ bounds.marks.members o i lo li marked))
      go true true false joined has-it marked =
          leads_one kind (mark_stage o i) (Mark o i 0) (mark_stage o (suc i)) yes_said within_range
          (mark-accepted kind (mark_stage o i) o i lo li has-it joined
          ∙ rw (mix-at new old long i inside, part_at o i li, mix-cleared mask (begun i) o (set-as has-it ∙ joined) marked, ← part_at (suc o) i li, mix-set new old long i inside) refl)

  marks_book : ℕ → Book
  marks_book o = with_marks figures_book (part_marks o)

  marks-lead : in_range kind (marks_book 0) ≡ true → Leads kind (marks_book 0) (mark_calls kind b) (marks_book operators)
  unfolding mark_calls marks_book mark_stage
  marks-lead within_range = leads-turns kind operators _ marks_book within_range row
    where
      row : (o : ℕ) → o < operators → in_range kind (marks_book o) ≡ true
          → Leads kind (marks_book o) (in_turn indicator_count (λ (i : ℕ). cond (is_joined b o && (takes_mark kind i && not (is_marked b o i))) (Mark o i 0 ∷ []) [])) (marks_book (suc o))
      row o lo here =
          rw (mix_all indicator_count (part_marks (suc o)) (part_marks o) (part-long (suc o)) (part-long o)) at
          (leads-turns kind indicator_count _ (mark_stage o) here (λ i li there. mark-step o i lo li there))

  part_none : part_marks 0 ≡ joined_marks kind b.joined
  part_none =
      ext_get_or 0 (part_marks 0) (joined_marks kind b.joined) (part-long 0 ∙ sym (joined-long kind b.joined))
      (λ i lt.
      let li : i < indicator_count = rw (part-long 0) at lt in
      part_at 0 i li ∙ mix-no-bits (get_or b.marks i 0) (begun i) ∙ sym (joined_at kind b.joined i li))

  part-all : part_marks operators ≡ b.marks
  part-all =
      ext_get_or 0 (part_marks operators) b.marks (part-long operators ∙ sym bounds.marks.long)
      (λ i lt.
      let li : i < indicator_count = rw (part-long operators) at lt in
      part_at operators i li ∙ mix-all-bits operators (get_or b.marks i 0) (begun i) (bounds.marks.small i li) (begun-small i))

  -- indices, place by place
  index_stage : ℕ → Book
  index_stage k = with_indices (with_marks figures_book b.marks) (mix k b.indices fresh_indices)

  index-step : (k : ℕ) → k < index_count → in_range kind (index_stage k) ≡ true
      → Leads kind (index_stage k) (unless_fresh (index_of b k) fresh_index (Index k (index_of b k))) (index_stage (suc k))
  unfolding index_stage index_of
  index-step k lt within_range = go (eqb (get_or b.indices k 0) fresh_index) refl
    where
      value : ℕ
      value = get_or b.indices k 0

      inside : k < length b.indices
      inside = rw bounds.indices.long lt

      long : length fresh_indices ≡ length b.indices
      long = sym bounds.indices.long

      go : (t : Bool) → eqb value fresh_index ≡ t → Leads kind (index_stage k) (cond t [] (Index k value ∷ [])) (index_stage (suc k))
      go true e =
          let same = mix-same b.indices fresh_indices long k inside (eqb-true value fresh_index e ∙ sym (get_or-replicate {A = ℕ} index_count k fresh_index 0 lt)) in
          rw same (leads-none kind (index_stage (suc k)) (rw (← same) within_range))
      go false e =
          leads_one kind (index_stage k) (Index k value) (index_stage (suc k)) yes_said within_range
          (index-accepted kind (index_stage k) k value lt (bounds.indices.within k lt).0 (bounds.indices.within k lt).1
          ∙ rw (mix-set b.indices fresh_indices long k inside) refl)

  indices-lead : in_range kind (index_stage 0) ≡ true → Leads kind (index_stage 0) (index_calls b) (index_stage index_count)
  unfolding index_calls
  indices-lead within_range = leads-turns kind index_count _ index_stage within_range index-step

  -- rates, if either is not 0
  rates-lead : in_range kind (index_stage index_count) ≡ true → Leads kind (index_stage index_count) (rate_calls b) b
  unfolding rate_calls index_stage fresh_book
  rates-lead within_range = rw same (go (eqb b.pot_rate 0 && eqb b.cap_rate 0) refl)
    where
      same : mix index_count b.indices fresh_indices ≡ b.indices
      same = mix_all index_count b.indices fresh_indices bounds.indices.long refl

      before : Book
      before = with_rates b 0 0

      go : (t : Bool) → eqb b.pot_rate 0 && eqb b.cap_rate 0 ≡ t → Leads kind before (cond t [] (Rates b.pot_rate b.cap_rate ∷ [])) b
      go true e =
          let no-pot = eqb-true b.pot_rate 0 (and_left (eqb b.pot_rate 0) _ e) in
          let no-cap = eqb-true b.cap_rate 0 (and_right (eqb b.pot_rate 0) _ e) in
          let is : before ≡ b = λ i. with_rates b (sym no-pot i) (sym no-cap i) in
          subst (λ (x : Book). Leads kind x [] b) (sym is) (leads-none kind b in-range-of-kind)
      go false e =
          leads_one kind before (Rates b.pot_rate b.cap_rate) b yes_said (rw same at within_range)
          (rates-accepted kind before b.pot_rate b.cap_rate bounds.rates.pot_rate bounds.rates.cap_rate)

  -- all of them
  pub written-leads : Leads kind fresh_book (written_calls kind b) b
  unfolding written_calls setting_stage figure_stage marks_book index_stage fresh_book
  written-leads =
      let settings-all = mix_all setting_places b.settings no_settings bounds.settings.long refl in
      let figures-all = mix_all figure_places b.figures no_figures bounds.figures.long refl in
      let joins = joins-lead in
      let settings = rw settings-all at (settings-lead (stays-ranged joins)) in
      let figures = rw figures-all at (figures-lead (stays-ranged settings)) in
      let marks = rw (part_none, part-all) at (marks-lead (rw part_none (stays-ranged figures))) in
      let indices = indices-lead (stays-ranged marks) in
      leads-then (leads-then (leads-then (leads-then (leads-then joins settings) figures) marks) indices) (rates-lead (stays-ranged indices))
