-- A value that is the defined one of every book with certain parts.
-- Assumes nothing.
use Prim.Native.Nat.{ℕ}
use mathlib.Core.Path.{◌≡◌, refl}
use mathlib.Core.List.{List}
use Rattle.book.specs.declared.Book.{Book}
use Rattle.book.specs.Book.{with_joined, with_marks, with_settings, with_figures, with_indices, fresh_book}
use Rattle.values.specs.Parts.{HasMarks, HasMeasures}

-- a book that lent parts belong to, and one that holds settings, figures and indices alone
module _ (joined : ℕ) (marks settings figures indices : List ℕ) where
  abbrev pub lending : Book
  lending = with_indices (with_figures (with_settings (with_marks (with_joined fresh_book joined) marks) settings) figures) indices

  pub lending-marked : HasMarks lending joined marks
  lending-marked = record { joined_are = refl; marks_are = refl }

  pub lending-measured : HasMeasures lending settings figures indices
  lending-measured = record { settings_are = refl; figures_are = refl; indices_are = refl }

-- a value that is the defined one of every book with the lent parts: what holds of one such book's holds of it
pub of-lent : {A : Type 0} {joined : ℕ} {marks settings figures indices : List ℕ} {value : A} (defined : Book → A) (Holds : A → Type 0)
    → ((b : Book) → HasMarks b joined marks → HasMeasures b settings figures indices → value ≡ defined b)
    → Holds (defined (lending joined marks settings figures indices)) → Holds value
of-lent {joined = joined} {marks = marks} {settings = settings} {figures = figures} {indices = indices} defined Holds known holds =
    rw (known (lending joined marks settings figures indices) (lending-marked joined marks settings figures indices) (lending-measured joined marks settings figures indices)) holds
