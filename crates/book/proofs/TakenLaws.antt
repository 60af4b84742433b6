-- What a kind does not take is 0, part by part; and the range of a kind, from the limits and this.
-- Assumes nothing.
use Prim.Native.Nat.{ℕ, ◌+◌, ◌*◌, ◌/◌, ◌%◌, ◌<◌}
use mathlib.Core.Path.{◌≡◌, refl, sym}
use mathlib.Core.Bool.{Bool, true, false, ◌&&◌, ◌||◌, false≢true}
use mathlib.Core.List.{List}
use native.Mathlib.Omega.{arith}
use lib.Dec.{eqb}
use lib.ListN.{get_or}
use borrow.Author.Tests.{eqb-true, eq-eqb}
use Rattle.calls.specs.declared.Kind.{Kind}
use Rattle.calls.specs.Limits.{operators, years, figure_count, setting_count, indicator_count, setting_places, operator_figures, figure_places}
use Rattle.calls.specs.Indicators.{Indicator, indicators_of, takes_interruptions, takes_setting, takes_figure, takes_mark}
use Rattle.book.specs.declared.Book.{Book}
use Rattle.book.specs.Book.{setting_slot, figure_slot, setting_of, figure_of, within_limits, settings_taken, figures_taken, marks_taken, only_taken, in_range}
use Rattle.calls.proofs.Flags.{and-true, and_left, both}
use Rattle.calls.proofs.KindLaws.{setting-taken, figure-taken, mark-taken}
use Rattle.book.proofs.EveryLaws.{every-of-each, each-of-every, every-fails}
use Rattle.book.proofs.Bounds.{Bounds, stays_within_limits, bounded}

-- ---- what each part keeps to
module _ (kind : List Indicator) where
  abbrev pub MarksTaken : List ℕ → Type 0
  MarksTaken marks = (indicator : ℕ) → indicator < indicator_count → takes_mark kind indicator ≡ false → get_or marks indicator 0 ≡ 0

  abbrev pub SettingsTaken : List ℕ → Type 0
  SettingsTaken settings = (operator which : ℕ) → operator < operators → which < setting_count → takes_setting kind which ≡ false
      → get_or settings (setting_slot operator which) 0 ≡ 0

  abbrev pub FiguresTaken : List ℕ → Type 0
  FiguresTaken figures = (operator year figure : ℕ) → operator < operators → year < years → figure < figure_count → takes_figure kind figure ≡ false
      → get_or figures (figure_slot operator year figure) 0 ≡ 0

-- a book in the range of a kind
pub record Ranged (kind : List Indicator) (b : Book) : Type 0 where
  pub bounds : Bounds b
  pub marks : MarksTaken kind b.marks
  pub settings : SettingsTaken kind b.settings
  pub figures : FiguresTaken kind b.figures

-- taken or 0, as the tests say it
taken-or : (taken : Bool) (value : ℕ) → (taken ≡ false → value ≡ 0) → taken || eqb value 0 ≡ true
taken-or true value zero-if = refl
taken-or false value zero-if = eq-eqb value 0 (zero-if refl)

or-taken : (taken : Bool) (value : ℕ) → taken || eqb value 0 ≡ true → taken ≡ false → value ≡ 0
or-taken true value e not_taken = absurd (false≢true (sym not_taken))
or-taken false value e not_taken = eqb-true value 0 e

module _ (kind : List Indicator) (b : Book) where
  pub ranged-within : in_range kind b ≡ true → within_limits b ≡ true
  unfolding in_range
  ranged-within = and_left (within_limits b) (only_taken kind b)

  pub ranged-bounds : in_range kind b ≡ true → Bounds b
  ranged-bounds ranged = bounded b (ranged-within ranged)

  pub within_range : Ranged kind b → in_range kind b ≡ true
  unfolding in_range only_taken settings_taken figures_taken marks_taken setting_of figure_of
  within_range r =
      and-true (stays_within_limits b r.bounds) (and-true (and-true
      (every-of-each operators _ (λ o lo. every-of-each setting_count _ (λ w lw. taken-or (takes_setting kind w) _ (r.settings o w lo lw))))
      (every-of-each operators _ (λ o lo. every-of-each years _ (λ y ly. every-of-each figure_count _ (λ f lf. taken-or (takes_figure kind f) _ (r.figures o y f lo ly lf))))))
      (every-of-each indicator_count _ (λ i li. taken-or (takes_mark kind i) _ (r.marks i li))))

  pub ranged : in_range kind b ≡ true → Ranged kind b
  unfolding in_range only_taken settings_taken figures_taken marks_taken setting_of figure_of
  ranged e =
      let (within, taken) = both (within_limits b) (only_taken kind b) e in
      let (two, marks-hold) = both (settings_taken kind b && figures_taken kind b) (marks_taken kind b) taken in
      let (settings-hold, figures-hold) = both (settings_taken kind b) (figures_taken kind b) two in
      record {
        bounds = bounded b within;
        marks = λ i li. or-taken (takes_mark kind i) _ (each-of-every indicator_count _ marks-hold i li);
        settings = λ o w lo lw. or-taken (takes_setting kind w) _ (each-of-every setting_count _ (each-of-every operators _ settings-hold o lo) w lw);
        figures = λ o y f lo ly lf.
            or-taken (takes_figure kind f) _ (each-of-every figure_count _ (each-of-every years _ (each-of-every operators _ figures-hold o lo) y ly) f lf);
      }

  -- ---- the tests, place by place in a row
  abbrev pub setting_taken : ℕ → Bool
  setting_taken k = takes_setting kind (k % setting_count) || eqb (get_or b.settings k 0) 0

  pub settings-taken : ((k : ℕ) → k < setting_places → setting_taken k ≡ true) → settings_taken kind b ≡ true
  unfolding settings_taken setting_of setting_slot
  settings-taken all = every-of-each operators _ (λ operator lo. every-of-each setting_count _ (λ which lw. one operator which lo lw))
    where
      one : (operator which : ℕ) → operator < operators → which < setting_count → takes_setting kind which || eqb (setting_of b operator which) 0 ≡ true
      one operator which lo lw =
          let rest : (operator * setting_count + which) % setting_count ≡ which = omega arith in
          rw rest at (all (operator * setting_count + which) (omega arith))

  pub settings-not-taken : (k : ℕ) → k < setting_places → setting_taken k ≡ false → settings_taken kind b ≡ false
  unfolding settings_taken setting_of setting_slot
  settings-not-taken k lt failed =
      let back : k / setting_count * setting_count + k % setting_count ≡ k = omega arith in
      every-fails operators _ (k / setting_count) (omega arith) (every-fails setting_count _ (k % setting_count) (omega arith) (rw back failed))

  abbrev pub figure_taken : ℕ → Bool
  figure_taken k = takes_figure kind (k % figure_count) || eqb (get_or b.figures k 0) 0

  pub figures-taken : ((k : ℕ) → k < figure_places → figure_taken k ≡ true) → figures_taken kind b ≡ true
  unfolding figures_taken figure_of figure_slot
  figures-taken all =
      every-of-each operators _ (λ operator lo. every-of-each years _ (λ year ly. every-of-each figure_count _ (λ figure lf. one operator year figure lo ly lf)))
    where
      one : (operator year figure : ℕ) → operator < operators → year < years → figure < figure_count
          → takes_figure kind figure || eqb (figure_of b operator year figure) 0 ≡ true
      one operator year figure lo ly lf =
          let rest : ((operator * years + year) * figure_count + figure) % figure_count ≡ figure = omega arith in
          rw rest at (all ((operator * years + year) * figure_count + figure) (omega arith))

  pub figures-not-taken : (k : ℕ) → k < figure_places → figure_taken k ≡ false → figures_taken kind b ≡ false
  unfolding figures_taken figure_of figure_slot
  figures-not-taken k lt failed =
      let back : (k / operator_figures * years + k / figure_count % years) * figure_count + k % figure_count ≡ k = omega arith in
      every-fails operators _ (k / operator_figures) (omega arith)
      (every-fails years _ (k / figure_count % years) (omega arith) (every-fails figure_count _ (k % figure_count) (omega arith) (rw back failed)))

  abbrev pub mark_taken : ℕ → Bool
  mark_taken k = takes_mark kind k || eqb (get_or b.marks k 0) 0

  pub marks-taken : ((k : ℕ) → k < indicator_count → mark_taken k ≡ true) → marks_taken kind b ≡ true
  unfolding marks_taken
  marks-taken all = every-of-each indicator_count _ all

  pub marks-not-taken : (k : ℕ) → k < indicator_count → mark_taken k ≡ false → marks_taken kind b ≡ false
  unfolding marks_taken
  marks-not-taken k lt failed = every-fails indicator_count _ k lt failed

-- with interruptions every place is taken
pub all-taken : (kind : Kind) (b : Book) → takes_interruptions (indicators_of kind) ≡ true → only_taken (indicators_of kind) b ≡ true
unfolding only_taken settings_taken figures_taken marks_taken
all-taken kind b has =
    and-true (and-true
    (every-of-each operators _ (λ o lo. every-of-each setting_count _ (λ w lw. rw (setting-taken kind w lw, has) refl)))
    (every-of-each operators _ (λ o lo. every-of-each years _ (λ y ly. every-of-each figure_count _ (λ f lf. rw (figure-taken kind f lf, has) refl)))))
    (every-of-each indicator_count _ (λ i li. rw (mark-taken kind i li, has) refl))
