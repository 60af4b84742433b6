-- What holds of the written filing of every book in range. Proofs: proofs/ReadBack.antt, proofs/WrittenLength.antt.
-- Assumes nothing.
use Rattle.std.specs.Prelude.{ℕ, zero, suc, ◌+◌, ◌*◌, ◌≤◌, ◌≡◌, ◌↔◌, Bool, true, false, cond, List, [], ◌∷◌, length, replicate}
use Rattle.book.specs.declared.Book.{Book}
use Rattle.calls.specs.Limits.{operators, years, setting_count, figure_count, indicator_count, index_count, setting_places, figure_places}
use Rattle.calls.specs.Indicators.{Indicator, takes_setting, takes_figure, takes_mark}
use Rattle.calls.specs.Answers.{Said, accepted, is_refused, Acceptance, yes_said}
use Rattle.book.specs.Book.{book_with, fresh_book, in_range}
use Rattle.ledger.specs.Calls.{filed_book, filed_answers}
use Rattle.filing.specs.Reader.{reading, read_as}
use Rattle.writing.specs.Written.{in_turn, written_calls, written_as}

-- no answer of a list refuses
abbrev pub NoneRefused : List (Said Acceptance) → Type 0
NoneRefused [] = Unit {0}
NoneRefused (answer ∷ rest) = (is_refused answer ≡ false) × NoneRefused rest

-- how many numbers below n pass a test
unfoldable pub how_many : ℕ → (ℕ → Bool) → ℕ
how_many zero test = 0
how_many (suc n) test = how_many n test + cond (test n) 1 0

-- the most bytes that a written filing of a kind needs: a join has 4, a setting 13, an amount 15, a mark 6, an index 8, rates 11
unfoldable pub written_most_as : List Indicator → ℕ
written_most_as kind =
    operators * 4 + operators * (how_many setting_count (takes_setting kind) * 13) + operators * (years * (how_many figure_count (takes_figure kind) * 15))
    + operators * (how_many indicator_count (takes_mark kind) * 6) + index_count * 8 + 11

-- "The most a writer needs grows to 11,083 bytes" (02, point 3); of gas 3,595
abbrev pub written_most : ℕ
written_most = 11083

abbrev pub written_most_gas : ℕ
written_most_gas = 3595

pub record WrittenOut (kind : List Indicator) (b : Book) (ranged : in_range kind b ≡ true) : Type 0 where
  -- filing the written calls one by one, none is refused, and they lead to the book
  pub filed : filed_book kind fresh_book (written_calls kind b) ≡ b
  pub accepted_all : NoneRefused (filed_answers kind fresh_book (written_calls kind b))
  -- the written filing, read into a fresh book, gives the book: all fields applied, offset at its end
  pub read_back : read_as kind fresh_book (written_as kind b) ≡ reading b (length (written_calls kind b)) (length (written_as kind b)) (accepted yes_said)
  -- two books are equal exactly when their written filings are the same bytes
  pub told_apart : (other : Book) → in_range kind other ≡ true → (b ≡ other) ↔ (written_as kind b ≡ written_as kind other)
  pub most : length (written_as kind b) ≤ written_most_as kind

-- a list so many times over
abbrev pub repeated : ℕ → List ℕ → List ℕ
repeated n list = in_turn n (λ (k : ℕ). list)

-- a book with every value filed, none of them fresh, and every mark cleared
abbrev pub fullest : Book
fullest = book_with 65535 (replicate indicator_count 0) (replicate setting_places 1) (replicate figure_places 1) 1 1 (replicate index_count 10001)

-- the same with what gas takes: access points and income of the five settings, fees and connections of the thirteen figures
abbrev pub fullest_gas : Book
fullest_gas =
    book_with 65535 (replicate indicator_count 0) (repeated operators (0 ∷ 1 ∷ 1 ∷ 0 ∷ 0 ∷ []))
    (repeated (operators * years) (0 ∷ 0 ∷ 0 ∷ 0 ∷ 1 ∷ 1 ∷ 1 ∷ 1 ∷ 0 ∷ 0 ∷ 0 ∷ 0 ∷ 0 ∷ [])) 1 1 (replicate index_count 10001)

-- a book of a kind is in range, and needs exactly so many
pub record Fullest (kind : List Indicator) (b : Book) (bytes : ℕ) : Type 0 where
  pub ranged : in_range kind b ≡ true
  pub most : bytes ≡ written_most_as kind
  pub exact : length (written_as kind b) ≡ bytes
