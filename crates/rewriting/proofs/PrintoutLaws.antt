-- What the program prints for a filing, case by case: too long, refused at a field, or read to its end into a book that can be written.
-- Assumes nothing.
use Prim.Native.Nat.{ℕ, ◌≤◌, ◌<◌}
use mathlib.Core.Path.{◌≡◌, refl}
use mathlib.Core.Bool.{true, false}
use mathlib.Core.List.{List}
use lib.ListN.{length}
use borrow.Author.Tests.{lt-ltb, le-ltb}
use Rattle.calls.specs.Indicators.{Indicator}
use Rattle.calls.specs.Answers.{refused_by, on_answer, is_refused}
use Rattle.book.specs.Book.{fresh_book, in_range}
use Rattle.history.proofs.Kept.{all_stay, fresh-in-range}
use Rattle.filing.specs.Reader.{read_as}
use Rattle.filing.proofs.ReadLaws.{read-as-calls}
use Rattle.text.specs.Text.{bytes_of}
use Rattle.output.specs.Output.{refused_field}
use Rattle.writing.specs.Written.{written_as}
use Rattle.calls.proofs.SaidLaws.{otherwise-given}
use Rattle.rewriting.specs.declared.Stream.TheVariants.{Output, Error}
use Rattle.rewriting.specs.Rewriting.{on_stream, written_or, printout_as}

module _ (kind : List Indicator) (filing : List ℕ) where
  pub read-in-range : in_range kind (read_as kind fresh_book filing).book ≡ true
  read-in-range = rw (read-as-calls kind fresh_book filing (fresh-in-range kind)).left_book (all_stay kind _ fresh_book (fresh-in-range kind))

  pub printout-long : 65536 < length filing → on_stream Error (bytes_of "too long\n") ≡ printout_as kind filing
  unfolding printout_as
  printout-long long = rw (lt-ltb 65536 (length filing) long) refl

  module _ (short : length filing ≤ 65536) where
    pub printout-refused : (number : ℕ) → (read_as kind fresh_book filing).said ≡ refused_by number
        → on_stream Error (refused_field number (read_as kind fresh_book filing).offset) ≡ printout_as kind filing
    unfolding printout_as written_or on_answer
    printout-refused number refused = rw (le-ltb 65536 (length filing) short, refused) refl

    pub printout-read : is_refused (read_as kind fresh_book filing).said ≡ false
        → on_stream Output (written_as kind (read_as kind fresh_book filing).book) ≡ printout_as kind filing
    unfolding printout_as written_or
    printout-read fine =
        rw (le-ltb 65536 (length filing) short, otherwise-given _ (on_stream Output (written_as kind (read_as kind fresh_book filing).book)) (read_as kind fresh_book filing).said fine) refl
