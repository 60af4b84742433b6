-- Books that hold the same of what a call looks at, whatever else is in them.
-- Assumes nothing.
use Rattle.std.specs.Prelude.{ℕ, ◌≡◌, List}
use Rattle.book.specs.declared.Book.{Book}

-- a book has these operators and marks
pub record HasMarks (b : Book) (joined : ℕ) (marks : List ℕ) : Type 0 where
  pub joined_are : b.joined ≡ joined
  pub marks_are : b.marks ≡ marks

-- a book has these settings, figures and indices, by which operators are measured
pub record HasMeasures (b : Book) (settings figures indices : List ℕ) : Type 0 where
  pub settings_are : b.settings ≡ settings
  pub figures_are : b.figures ≡ figures
  pub indices_are : b.indices ≡ indices
