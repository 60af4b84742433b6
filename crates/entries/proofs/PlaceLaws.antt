-- The calls at each place of a written filing, and that all places in turn are the calls that a book is written as.
-- Assumes nothing.
use Prim.Native.Nat.{ℕ, zero, suc, ◌+◌, ◌*◌, ◌-◌, ◌/◌, ◌%◌, ◌≤◌, ◌<◌}
use mathlib.Core.Path.{◌≡◌, refl, sym, ◌∙◌}
use mathlib.Core.List.{List, ◌++◌, append_assoc, append-nil}
use native.Mathlib.Nat.{suc-mul, mul-add-div_right, mul-add-mod_self_right, div-eq_of_lt, mod-eq_of_lt, add-zero, add-suc, zero-mul}
use native.Mathlib.Omega.{arith}
use borrow.Author.Tests.{lt-ltb, le-ltb}
use Rattle.book.specs.declared.Book.{Book}
use Rattle.calls.specs.declared.Call.{Call}
use Rattle.calls.specs.declared.Call.TheVariants.{Amount}
use Rattle.calls.specs.Indicators.{Indicator}
use Rattle.calls.specs.Limits.{operators, years, figure_count, setting_count, indicator_count, index_count, setting_places, mark_places}
use Rattle.book.specs.Book.{is_joined, is_marked, setting_of, figure_of, index_of}
use Rattle.writing.specs.Written.{in_turn, unless_fresh, join_calls, setting_calls, amount_calls, mark_calls, index_calls, rate_calls, written_calls}
use Rattle.entries.specs.Entries.{join_at, setting_at, amount_at, mark_at, index_at, rates_at, settings_from, amounts_from, marks_from, indices_from, rates_from, places, calls_at}

abbrev figure_places : ℕ
figure_places = operators * (years * figure_count)

module _ (kind : List Indicator) (b : Book) (place : ℕ) where
  pub place-join : place < settings_from → calls_at kind b place ≡ join_at b.joined place
  unfolding calls_at
  place-join lt = rw (lt-ltb place settings_from lt) refl

  pub place-setting : settings_from ≤ place → place < amounts_from → calls_at kind b place ≡ setting_at b.settings (place - settings_from)
  unfolding calls_at
  place-setting le lt = rw (le-ltb place settings_from le, lt-ltb place amounts_from lt) refl

  pub place-amount : amounts_from ≤ place → place < marks_from → calls_at kind b place ≡ amount_at b.figures (place - amounts_from)
  unfolding calls_at
  place-amount le lt = rw (le-ltb place settings_from (omega arith), le-ltb place amounts_from le, lt-ltb place marks_from lt) refl

  pub place-mark : marks_from ≤ place → place < indices_from → calls_at kind b place ≡ mark_at kind b.joined b.marks (place - marks_from)
  unfolding calls_at
  place-mark le lt = rw (le-ltb place settings_from (omega arith), le-ltb place amounts_from (omega arith), le-ltb place marks_from le, lt-ltb place indices_from lt) refl

  pub place-index : indices_from ≤ place → place < rates_from → calls_at kind b place ≡ index_at b.indices (place - indices_from)
  unfolding calls_at
  place-index le lt =
      rw (le-ltb place settings_from (omega arith), le-ltb place amounts_from (omega arith), le-ltb place marks_from (omega arith), le-ltb place indices_from le, lt-ltb place rates_from lt) refl

  pub place-rates : rates_from ≤ place → calls_at kind b place ≡ rates_at b.pot_rate b.cap_rate
  unfolding calls_at
  place-rates le =
      rw (le-ltb place settings_from (omega arith), le-ltb place amounts_from (omega arith), le-ltb place marks_from (omega arith), le-ltb place indices_from (omega arith), le-ltb place rates_from le) refl

module _ {A : Type 0} where
  -- the same lists in turn
  turns-alike : (n : ℕ) (f g : ℕ → List A) → ((k : ℕ) → k < n → f k ≡ g k) → in_turn n f ≡ in_turn n g
  unfolding in_turn
  turns-alike zero f g same = refl
  turns-alike (suc n) f g same = rw (turns-alike n f g (λ k lt. same k (omega arith)), same n (omega arith)) refl

  -- the first n and the others
  pub turns-split : (n m : ℕ) (f : ℕ → List A) → in_turn (n + m) f ≡ in_turn n f ++ in_turn m (λ (k : ℕ). f (n + k))
  unfolding in_turn
  turns-split n zero f = rw (add-zero n) (sym (append-nil (in_turn n f)))
  turns-split n (suc m) f =
      rw (add-suc n m, turns-split n m f) (append_assoc (in_turn n f) (in_turn m (λ (k : ℕ). f (n + k))) (f (n + m)))

  -- rows of m, one after the other
  turns-rows : (n m : ℕ) (f : ℕ → ℕ → List A) → in_turn n (λ (row : ℕ). in_turn m (f row)) ≡ in_turn (n * m) (λ (k : ℕ). f (k / m) (k % m))
  unfolding in_turn
  turns-rows zero m f = rw (zero-mul m) refl
  turns-rows (suc n) m f =
      rw (suc-mul n m, turns-split (n * m) m (λ (k : ℕ). f (k / m) (k % m)))
      (λ i. turns-rows n m f i ++ turns-alike m (f n) (λ (k : ℕ). f ((n * m + k) / m) ((n * m + k) % m)) last i)
    where
      last : (k : ℕ) → k < m → f n k ≡ f ((n * m + k) / m) ((n * m + k) % m)
      last k lt =
          let row : (n * m + k) / m ≡ n = rw (mul-add-div_right {m = m} (omega arith) n k, div-eq_of_lt lt) (omega arith) in
          let place : (n * m + k) % m ≡ k = rw (mul-add-mod_self_right n m k, mod-eq_of_lt lt) refl in
          rw (row, place) refl

  -- lists that stand from a place on
  turns-from : (n from : ℕ) (f g : ℕ → List A) → ((k : ℕ) → k < n → f (from + k) ≡ g (from + k - from)) → in_turn n g ≡ in_turn n (λ (k : ℕ). f (from + k))
  turns-from n from f g same =
      turns-alike n g (λ (k : ℕ). f (from + k)) (λ k lt. let back : from + k - from ≡ k = omega arith in sym (same k lt ∙ rw back refl))

module _ (kind : List Indicator) (b : Book) where
  abbrev at : ℕ → List Call
  at = calls_at kind b

  joins-placed : join_calls b ≡ in_turn settings_from at
  unfolding join_calls join_at is_joined
  joins-placed = turns-alike settings_from _ at (λ k lt. sym (place-join kind b k lt))

  settings-placed : setting_calls b ≡ in_turn setting_places (λ (k : ℕ). at (settings_from + k))
  unfolding setting_calls setting_at setting_of
  settings-placed =
      turns-rows operators setting_count _
      ∙ turns-from setting_places settings_from at (setting_at b.settings) (λ k lt. place-setting kind b (settings_from + k) (omega arith) (omega arith))

  -- an amount of a figure
  abbrev amount_of : ℕ → ℕ → ℕ → List Call
  amount_of operator year figure =
      unless_fresh (figure_of b operator year figure) 0 (Amount operator year figure 0 (figure_of b operator year figure))

  amounts-placed : amount_calls b ≡ in_turn figure_places (λ (k : ℕ). at (amounts_from + k))
  unfolding amount_calls amount_at figure_of
  amounts-placed =
      turns-alike operators _ _ (λ operator lt. turns-rows years figure_count (amount_of operator))
      ∙ turns-rows operators (years * figure_count) (λ (operator k : ℕ). amount_of operator (k / figure_count) (k % figure_count))
      ∙ turns-alike figure_places _ (amount_at b.figures) (λ k lt. let figure : k % (years * figure_count) % figure_count ≡ k % figure_count = omega arith in rw figure refl)
      ∙ turns-from figure_places amounts_from at (amount_at b.figures) (λ k lt. place-amount kind b (amounts_from + k) (omega arith) (omega arith))

  marks-placed : mark_calls kind b ≡ in_turn mark_places (λ (k : ℕ). at (marks_from + k))
  unfolding mark_calls mark_at is_joined is_marked
  marks-placed =
      turns-rows operators indicator_count _
      ∙ turns-from mark_places marks_from at (mark_at kind b.joined b.marks) (λ k lt. place-mark kind b (marks_from + k) (omega arith) (omega arith))

  indices-placed : index_calls b ≡ in_turn index_count (λ (k : ℕ). at (indices_from + k))
  unfolding index_calls index_at index_of
  indices-placed = turns-from index_count indices_from at (index_at b.indices) (λ k lt. place-index kind b (indices_from + k) (omega arith) (omega arith))

  rates-placed : rate_calls b ≡ in_turn 1 (λ (k : ℕ). at (rates_from + k))
  unfolding rate_calls rates_at in_turn
  rates-placed = sym (place-rates kind b rates_from (omega arith))

  pub all_placed : written_calls kind b ≡ in_turn places at
  unfolding written_calls
  all_placed =
      (λ i. joins-placed i ++ settings-placed i ++ amounts-placed i ++ marks-placed i ++ indices-placed i ++ rates-placed i)
      ∙ sym (rw (turns-split rates_from 1 at, turns-split indices_from index_count at, turns-split marks_from mark_places at, turns-split amounts_from figure_places at, turns-split settings_from setting_places at) refl)
