-- What is promised of the written filing of every book in range (specs/Laws.antt).
-- Assumes nothing.
use Prim.Native.Nat.{ℕ, ◌≤◌}
use lib.Dec.{lit≤}
use mathlib.Core.Path.{◌≡◌, refl, sym, ap, ◌∙◌}
use mathlib.Core.List.{List}
use mathlib.Core.Bool.{true}
use Rattle.book.specs.declared.Book.{Book}
use Rattle.calls.specs.Indicators.{Indicator, electricity, gas, indicators_of}
use Rattle.calls.specs.declared.Kind.{Kind}
use Rattle.calls.specs.declared.Kind.TheVariants.{Electricity, Gas}
use Rattle.calls.proofs.KindLaws.{kinds-opened}
use Rattle.calls.specs.Answers.{accepted, yes_said}
use Rattle.book.specs.Book.{fresh_book, in_range}
use Rattle.book.proofs.Opened.{book-opened}
use Rattle.fields.specs.Encoding.{in_bytes, field_of, encoded}
use lib.ListN.{length}
use Rattle.filing.specs.Reader.{Reached, reading, read_as}
use Rattle.writing.specs.Written.{in_turn, join_calls, setting_calls, amount_calls, mark_calls, index_calls, rate_calls, written_calls, filing_of, written_as}
use Rattle.writing.specs.Laws.{how_many, written_most_as, written_most, written_most_gas, WrittenOut, Fullest, fullest, fullest_gas}
use Rattle.writing.proofs.Rebuilt.{written-leads}
use Rattle.writing.proofs.ReadBack.{read-calls}
use Rattle.writing.proofs.WrittenLength.{written_small}

read_back : (kind : List Indicator) (b : Book) → in_range kind b ≡ true
    → read_as kind fresh_book (written_as kind b) ≡ reading b (length (written_calls kind b)) (length (written_as kind b)) (accepted yes_said)
unfolding written_as
read_back kind b ranged =
    let leads = written-leads kind b ranged in
    rw leads.to_is at (read-calls kind (written_calls kind b) (written_small kind b ranged).fits leads.fine)

-- the same bytes give the same book back
same-book : (kind : List Indicator) (b other : Book) → in_range kind b ≡ true → in_range kind other ≡ true → written_as kind b ≡ written_as kind other → b ≡ other
same-book kind b other ranged ranged-too same =
    sym (ap (λ (r : Reached). r.book) (read_back kind b ranged))
    ∙ ap (λ (bytes : List ℕ). (read_as kind fresh_book bytes).book) same
    ∙ ap (λ (r : Reached). r.book) (read_back kind other ranged-too)

pub written_out : (kind : List Indicator) (b : Book) (ranged : in_range kind b ≡ true) → WrittenOut kind b ranged
unfolding written_as
written_out kind b ranged =
    record {
      filed = (written-leads kind b ranged).to_is;
      accepted_all = (written-leads kind b ranged).fine;
      read_back = read_back kind b ranged;
      told_apart = λ other ranged-too. ((λ same. ap (written_as kind) same), same-book kind b other ranged ranged-too);
      most = (written_small kind b ranged).size;
    }

-- found by writing them
pub fullest-exact : Fullest electricity fullest written_most
unfolding book-opened in_turn join_calls setting_calls amount_calls mark_calls index_calls rate_calls written_calls filing_of written_as encoded field_of in_bytes how_many written_most_as
fullest-exact = record { ranged = refl; most = refl; exact = refl }

-- no kind needs more than electricity
pub most-of-kind : (kind : Kind) → written_most_as (indicators_of kind) ≤ written_most
unfolding how_many written_most_as kinds-opened
most-of-kind Electricity = lit≤ tt
most-of-kind Gas = lit≤ tt

pub fullest-gas-exact : Fullest gas fullest_gas written_most_gas
unfolding book-opened in_turn join_calls setting_calls amount_calls mark_calls index_calls rate_calls written_calls filing_of written_as encoded field_of in_bytes how_many written_most_as
fullest-gas-exact = record { ranged = refl; most = refl; exact = refl }
