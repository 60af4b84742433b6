-- A book within its limits, as bounds of each value that it holds, part by part: one that moves leaves the others in theirs.
-- Assumes nothing.
use Prim.Native.Nat.{ℕ, ◌^◌, ◌≤◌, ◌<◌}
use mathlib.Core.Path.{◌≡◌, refl}
use mathlib.Core.Bool.{Bool, true, false, cond, not, ◌&&◌, ◌||◌, false≢true}
use mathlib.Core.List.{List}
use native.Mathlib.Omega.{arith}
use lib.Dec.{leb, ltb, eqb}
use lib.ListN.{length, get_or}
use borrow.Author.Tests.{leb-true, le-leb, ltb-true, lt-ltb, eqb-true, eq-eqb}
use Rattle.book.specs.declared.Book.{Book}
use Rattle.calls.specs.Limits.{operators, years, figure_count, setting_count, indicator_count, index_count, setting_places, figure_places, setting_limit, figure_limit, rate_limit, index_least, index_most}
use Rattle.calls.specs.Masks.{has}
use Rattle.book.specs.Book.{with_joined, with_marks, with_settings, with_figures, with_rates, with_indices, setting_slot, figure_slot, is_joined, is_marked, setting_of, figure_of, index_of, most, is_complete, has_sixteen_bits, settings_in_range, figures_in_range, marks_in_range, indices_in_range, rates_in_range, within_limits}
use Rattle.calls.proofs.Flags.{and-true, both}
use Rattle.book.proofs.EveryLaws.{every-of-each, each-of-every}

-- ---- what each part keeps to, given who has joined
pub record MarksBounds (joined : ℕ) (marks : List ℕ) : Type 0 where
  pub long : length marks ≡ indicator_count
  pub small : (indicator : ℕ) → indicator < indicator_count → get_or marks indicator 0 < 2 ^ 16
  pub members : (operator indicator : ℕ) → operator < operators → indicator < indicator_count → has (get_or marks indicator 0) operator ≡ true → has joined operator ≡ true

pub record SettingsBounds (joined : ℕ) (settings : List ℕ) : Type 0 where
  pub long : length settings ≡ setting_places
  pub within : (operator which : ℕ) → operator < operators → which < setting_count
      → get_or settings (setting_slot operator which) 0 ≤ most joined operator (setting_limit which)

pub record FiguresBounds (joined : ℕ) (figures : List ℕ) : Type 0 where
  pub long : length figures ≡ figure_places
  pub within : (operator year figure : ℕ) → operator < operators → year < years → figure < figure_count
      → get_or figures (figure_slot operator year figure) 0 ≤ most joined operator figure_limit

pub record RatesBounds (pot cap : ℕ) : Type 0 where
  pub pot_rate : pot ≤ rate_limit
  pub cap_rate : cap ≤ rate_limit

pub record IndicesBounds (indices : List ℕ) : Type 0 where
  pub long : length indices ≡ index_count
  pub within : (number : ℕ) → number < index_count → (index_least ≤ get_or indices number 0) × (get_or indices number 0 ≤ index_most)

-- all of them
pub record Bounds (b : Book) : Type 0 where
  pub joined : b.joined < 2 ^ 16
  pub marks : MarksBounds b.joined b.marks
  pub settings : SettingsBounds b.joined b.settings
  pub figures : FiguresBounds b.joined b.figures
  pub rates : RatesBounds b.pot_rate b.cap_rate
  pub indices : IndicesBounds b.indices

-- at most the limit, joined or not
pub most-le : (joined operator limit : ℕ) → most joined operator limit ≤ limit
unfolding most
most-le joined operator limit = go (has joined operator)
  where
    go : (t : Bool) → cond t limit 0 ≤ limit
    go true = omega arith
    go false = omega arith

-- ---- a book with another part that keeps to its bounds keeps to all of them
-- an operator more lets no value out of its range
pub still-most : (joined more operator limit n : ℕ) → (has joined operator ≡ true → has more operator ≡ true) → n ≤ most joined operator limit → n ≤ most more operator limit
unfolding most
still-most joined more operator limit n still le = go (has joined operator) (has more operator) still le
  where
    go : (before now : Bool) → (before ≡ true → now ≡ true) → n ≤ cond before limit 0 → n ≤ cond now limit 0
    go true now still le = rw (still refl) le
    go false true still le = omega arith
    go false false still le = le

module _ {b : Book} (bounds : Bounds b) where
  pub bounds-with-joined : (joined : ℕ) → joined < 2 ^ 16 → ((operator : ℕ) → has b.joined operator ≡ true → has joined operator ≡ true) → Bounds (with_joined b joined)
  bounds-with-joined joined small still =
      record {
        joined = small;
        marks =
            record {
              long = bounds.marks.long;
              small = bounds.marks.small;
              members = λ o i lo li marked. still o (bounds.marks.members o i lo li marked);
            };
        settings =
            record {
              long = bounds.settings.long;
              within = λ o w lo lw. still-most b.joined joined o _ _ (still o) (bounds.settings.within o w lo lw);
            };
        figures =
            record {
              long = bounds.figures.long;
              within = λ o y f lo ly lf. still-most b.joined joined o _ _ (still o) (bounds.figures.within o y f lo ly lf);
            };
        rates = bounds.rates;
        indices = bounds.indices;
      }

  pub bounds-with-marks : (marks : List ℕ) → MarksBounds b.joined marks → Bounds (with_marks b marks)
  bounds-with-marks marks part =
      record { joined = bounds.joined; marks = part; settings = bounds.settings; figures = bounds.figures; rates = bounds.rates; indices = bounds.indices }

  pub bounds-with-settings : (settings : List ℕ) → SettingsBounds b.joined settings → Bounds (with_settings b settings)
  bounds-with-settings settings part =
      record { joined = bounds.joined; marks = bounds.marks; settings = part; figures = bounds.figures; rates = bounds.rates; indices = bounds.indices }

  pub bounds-with-figures : (figures : List ℕ) → FiguresBounds b.joined figures → Bounds (with_figures b figures)
  bounds-with-figures figures part =
      record { joined = bounds.joined; marks = bounds.marks; settings = bounds.settings; figures = part; rates = bounds.rates; indices = bounds.indices }

  pub bounds-with-rates : (pot cap : ℕ) → RatesBounds pot cap → Bounds (with_rates b pot cap)
  bounds-with-rates pot cap part =
      record { joined = bounds.joined; marks = bounds.marks; settings = bounds.settings; figures = bounds.figures; rates = part; indices = bounds.indices }

  pub bounds-with-indices : (indices : List ℕ) → IndicesBounds indices → Bounds (with_indices b indices)
  bounds-with-indices indices part =
      record { joined = bounds.joined; marks = bounds.marks; settings = bounds.settings; figures = bounds.figures; rates = bounds.rates; indices = part }

-- ---- the bounds and the tests of the range
-- a mark of one who has joined, as the range tests it
implied : (s t : Bool) → (s ≡ true → t ≡ true) → not s || t ≡ true
implied true t f = f refl
implied false t f = refl

implies : (s t : Bool) → not s || t ≡ true → s ≡ true → t ≡ true
implies true t e p = e
implies false t e p = absurd (false≢true p)

-- lengths and bits, which the types of the code give
pub complete : (b : Book) → length b.marks ≡ indicator_count → length b.settings ≡ setting_places → length b.figures ≡ figure_places → length b.indices ≡ index_count → is_complete b ≡ true
unfolding is_complete
complete b marks settings figures indices =
    and-true (and-true (and-true (eq-eqb _ indicator_count marks) (eq-eqb _ setting_places settings)) (eq-eqb _ figure_places figures)) (eq-eqb _ index_count indices)

pub sixteen-bits : {mask : ℕ} → mask < 2 ^ 16 → has_sixteen_bits mask ≡ true
unfolding has_sixteen_bits
sixteen-bits {mask = mask} small = lt-ltb mask _ (omega (arith, small))

-- the bounds put a book within its limits
module _ (b : Book) (bounds : Bounds b) where
  settings-in : settings_in_range b ≡ true
  unfolding settings_in_range setting_of
  settings-in = every-of-each operators _ (λ o lo. every-of-each setting_count _ (λ w lw. le-leb _ _ (bounds.settings.within o w lo lw)))

  figures-in : figures_in_range b ≡ true
  unfolding figures_in_range figure_of
  figures-in =
      every-of-each operators _
      (λ o lo. every-of-each years _ (λ y ly. every-of-each figure_count _ (λ f lf. le-leb _ _ (bounds.figures.within o y f lo ly lf))))

  marks-in : marks_in_range b ≡ true
  unfolding marks_in_range is_marked is_joined
  marks-in =
      every-of-each indicator_count _
      (λ i li. and-true (sixteen-bits (bounds.marks.small i li))
      (every-of-each operators _ (λ o lo. implied (is_marked b o i) (is_joined b o) (bounds.marks.members o i lo li))))

  rates-in : rates_in_range b ≡ true
  unfolding rates_in_range
  rates-in = and-true (le-leb _ _ bounds.rates.pot_rate) (le-leb _ _ bounds.rates.cap_rate)

  indices-in : indices_in_range b ≡ true
  unfolding indices_in_range index_of
  indices-in =
      every-of-each index_count _ (λ n lt. and-true (le-leb index_least _ (bounds.indices.within n lt).0) (le-leb _ index_most (bounds.indices.within n lt).1))

  lists-in : is_complete b ≡ true
  lists-in = complete b bounds.marks.long bounds.settings.long bounds.figures.long bounds.indices.long

  pub stays_within_limits : within_limits b ≡ true
  unfolding within_limits
  stays_within_limits =
      and-true (and-true (and-true (and-true (and-true (and-true settings-in figures-in) marks-in) rates-in) indices-in) lists-in) (sixteen-bits bounds.joined)

-- a book within its limits keeps the bounds
pub bounded : (b : Book) → within_limits b ≡ true → Bounds b
unfolding within_limits is_complete has_sixteen_bits settings_in_range figures_in_range marks_in_range rates_in_range indices_in_range is_joined is_marked setting_of figure_of index_of
bounded b ranged =
    let (six, bits-hold) = both (settings_in_range b && figures_in_range b && marks_in_range b && rates_in_range b && indices_in_range b && is_complete b) (has_sixteen_bits b.joined) ranged in
    let (five, complete-holds) = both (settings_in_range b && figures_in_range b && marks_in_range b && rates_in_range b && indices_in_range b) (is_complete b) six in
    let (four, indices-hold) = both (settings_in_range b && figures_in_range b && marks_in_range b && rates_in_range b) (indices_in_range b) five in
    let (three, rates-hold) = both (settings_in_range b && figures_in_range b && marks_in_range b) (rates_in_range b) four in
    let (two, marks-hold) = both (settings_in_range b && figures_in_range b) (marks_in_range b) three in
    let (settings-hold, figures-hold) = both (settings_in_range b) (figures_in_range b) two in
    let (lists, indices-complete) = both (eqb (length b.marks) indicator_count && eqb (length b.settings) setting_places && eqb (length b.figures) figure_places) (eqb (length b.indices) index_count) complete-holds in
    let (places, figures-complete) = both (eqb (length b.marks) indicator_count && eqb (length b.settings) setting_places) (eqb (length b.figures) figure_places) lists in
    let (marks-complete, settings-complete) = both (eqb (length b.marks) indicator_count) (eqb (length b.settings) setting_places) places in
    let rates = both (leb b.pot_rate rate_limit) (leb b.cap_rate rate_limit) rates-hold in
    record {
      joined = ltb-true _ _ bits-hold;
      marks =
          record {
            long = eqb-true _ _ marks-complete;
            small = λ i li. ltb-true _ _ (both (ltb (get_or b.marks i 0) (2 ^ 16)) _ (each-of-every indicator_count _ marks-hold i li)).0;
            members = λ o i lo li.
                implies _ _ (each-of-every operators _ (both (ltb (get_or b.marks i 0) (2 ^ 16)) _ (each-of-every indicator_count _ marks-hold i li)).1 o lo);
          };
      settings =
          record {
            long = eqb-true _ _ settings-complete;
            within = λ o w lo lw. leb-true _ _ (each-of-every setting_count _ (each-of-every operators _ settings-hold o lo) w lw);
          };
      figures =
          record {
            long = eqb-true _ _ figures-complete;
            within = λ o y f lo ly lf. leb-true _ _ (each-of-every figure_count _ (each-of-every years _ (each-of-every operators _ figures-hold o lo) y ly) f lf);
          };
      rates = record { pot_rate = leb-true _ _ rates.0; cap_rate = leb-true _ _ rates.1 };
      indices =
          record {
            long = eqb-true _ _ indices-complete;
            within = λ n lt.
                let between = both (leb index_least (index_of b n)) (leb (index_of b n) index_most) (each-of-every index_count _ indices-hold n lt) in
                (leb-true _ _ between.0, leb-true _ _ between.1);
          };
    }
