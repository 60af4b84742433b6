-- The book: a fresh one, what it holds by name, and when it is in range (01, "The book").
-- Assumes nothing.
use Rattle.std.specs.Prelude.{ℕ, zero, suc, ◌+◌, ◌*◌, ◌^◌, ◌<◌, Bool, true, cond, not, ◌&&◌, ◌||◌, List, ltb, leb, eqb, length, get_or, replicate}
use Rattle.book.specs.declared.Book.{Book}
use Rattle.calls.specs.Limits.{operators, years, figure_count, setting_count, indicator_count, index_count, setting_limit, figure_limit, rate_limit, index_least, index_most, fresh_index}
use Rattle.calls.specs.Masks.{has}
use Rattle.calls.specs.Indicators.{Indicator, takes_setting, takes_figure, takes_mark}
use Rattle.calls.specs.Held.{Held, held}

-- a book by its parts
abbrev pub book_with : ℕ → List ℕ → List ℕ → List ℕ → ℕ → ℕ → List ℕ → Book
book_with joined marks settings figures pot cap indices =
    record { joined = joined; marks = marks; settings = settings; figures = figures; pot_rate = pot; cap_rate = cap; indices = indices }

-- a book with another part, all else as it was
abbrev pub with_joined : Book → ℕ → Book
with_joined b joined = book_with joined b.marks b.settings b.figures b.pot_rate b.cap_rate b.indices

abbrev pub with_marks : Book → List ℕ → Book
with_marks b marks = book_with b.joined marks b.settings b.figures b.pot_rate b.cap_rate b.indices

abbrev pub with_settings : Book → List ℕ → Book
with_settings b settings = book_with b.joined b.marks settings b.figures b.pot_rate b.cap_rate b.indices

abbrev pub with_figures : Book → List ℕ → Book
with_figures b figures = book_with b.joined b.marks b.settings figures b.pot_rate b.cap_rate b.indices

abbrev pub with_rates : Book → ℕ → ℕ → Book
with_rates b pot cap = book_with b.joined b.marks b.settings b.figures pot cap b.indices

abbrev pub with_indices : Book → List ℕ → Book
with_indices b indices = book_with b.joined b.marks b.settings b.figures b.pot_rate b.cap_rate indices

-- "none joined, no marks, all figures and settings 0, and all four indices 10,000"
unfoldable pub fresh_book : Book
fresh_book =
    book_with 0 (replicate indicator_count 0) (replicate (operators * setting_count) 0) (replicate (operators * years * figure_count) 0)
    0 0 (replicate index_count fresh_index)

-- an operator, a year and a figure that there are
pub record KnownFigure (operator year figure : ℕ) : Type 0 where
  pub operator_known : operator < operators
  pub year_known : year < years
  pub figure_known : figure < figure_count

-- where a setting and a figure stand
unfoldable pub setting_slot : ℕ → ℕ → ℕ
setting_slot operator which = operator * setting_count + which

unfoldable pub figure_slot : ℕ → ℕ → ℕ → ℕ
figure_slot operator year figure = (operator * years + year) * figure_count + figure

unfoldable pub is_joined : Book → ℕ → Bool
is_joined b operator = has b.joined operator

-- the mark of an operator at an indicator: true is unreliable
unfoldable pub is_marked : Book → ℕ → ℕ → Bool
is_marked b operator indicator = has (get_or b.marks indicator 0) operator

unfoldable pub setting_of : Book → ℕ → ℕ → ℕ
setting_of b operator which = get_or b.settings (setting_slot operator which) 0

unfoldable pub figure_of : Book → ℕ → ℕ → ℕ → ℕ
figure_of b operator year figure = get_or b.figures (figure_slot operator year figure) 0

unfoldable pub index_of : Book → ℕ → ℕ
index_of b number = get_or b.indices number 0

-- what a book holds
abbrev pub held_by : Book → Held
held_by b = held (is_joined b) (setting_of b) (is_marked b) b.pot_rate b.cap_rate (index_of b) (figure_of b)

-- each list has all its places
unfoldable pub is_complete : Book → Bool
is_complete b =
    eqb (length b.marks) indicator_count && eqb (length b.settings) (operators * setting_count)
    && eqb (length b.figures) (operators * years * figure_count) && eqb (length b.indices) index_count

-- "sixteen bits of one number"
unfoldable pub has_sixteen_bits : ℕ → Bool
has_sixteen_bits mask = ltb mask (2 ^ 16)

-- a test at every number below n
unfoldable pub every : ℕ → (ℕ → Bool) → Bool
every zero test = true
every (suc n) test = every n test && test n

-- the most that may stand at a place of an operator: a limit, or the fresh value 0 for one not joined
unfoldable pub most : ℕ → ℕ → ℕ → ℕ
most joined operator limit = cond (has joined operator) limit 0

unfoldable pub settings_in_range : Book → Bool
settings_in_range b =
    every operators (λ (operator : ℕ). every setting_count (λ (which : ℕ). leb (setting_of b operator which) (most b.joined operator (setting_limit which))))

unfoldable pub figures_in_range : Book → Bool
figures_in_range b =
    every operators (λ (operator : ℕ). every years (λ (year : ℕ). every figure_count (λ (figure : ℕ).
    leb (figure_of b operator year figure) (most b.joined operator figure_limit))))

unfoldable pub marks_in_range : Book → Bool
marks_in_range b =
    every indicator_count (λ (indicator : ℕ). has_sixteen_bits (get_or b.marks indicator 0)
    && every operators (λ (operator : ℕ). not (is_marked b operator indicator) || is_joined b operator))

unfoldable pub indices_in_range : Book → Bool
indices_in_range b = every index_count (λ (number : ℕ). leb index_least (index_of b number) && leb (index_of b number) index_most)

unfoldable pub rates_in_range : Book → Bool
rates_in_range b = leb b.pot_rate rate_limit && leb b.cap_rate rate_limit

-- no value above or below its limits, nothing "but fresh values for an operator not joined": the same for books of every kind
unfoldable pub within_limits : Book → Bool
within_limits b =
    settings_in_range b && figures_in_range b && marks_in_range b && rates_in_range b && indices_in_range b && is_complete b && has_sixteen_bits b.joined

-- 0 wherever a kind takes nothing: "A lent gas book in which one of these isn't 0 gets 5 like any value out of range" (02, point 4)
module _ (kind : List Indicator) (b : Book) where
  unfoldable pub settings_taken : Bool
  settings_taken = every operators (λ (operator : ℕ). every setting_count (λ (which : ℕ). takes_setting kind which || eqb (setting_of b operator which) 0))

  unfoldable pub figures_taken : Bool
  figures_taken =
      every operators (λ (operator : ℕ). every years (λ (year : ℕ). every figure_count (λ (figure : ℕ).
      takes_figure kind figure || eqb (figure_of b operator year figure) 0)))

  -- whole masks
  unfoldable pub marks_taken : Bool
  marks_taken = every indicator_count (λ (indicator : ℕ). takes_mark kind indicator || eqb (get_or b.marks indicator 0) 0)

  unfoldable pub only_taken : Bool
  only_taken = settings_taken && figures_taken && marks_taken

  -- no "value outside its range" in a book of this kind
  unfoldable pub in_range : Bool
  in_range = within_limits b && only_taken
