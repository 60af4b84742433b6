-- What is printed for a filing, case by case: too long, refused at a field, or read to its end.
-- Assumes nothing.
use Prim.Native.Nat.{ℕ, ◌≤◌, ◌<◌}
use mathlib.Core.Path.{◌≡◌, refl, sym, ap, ◌∙◌}
use mathlib.Core.Bool.{false}
use mathlib.Core.List.{List}
use lib.ListN.{length}
use borrow.Author.Tests.{lt-ltb, le-ltb}
use Rattle.calls.specs.declared.Refusal.{Refusal}
use Rattle.calls.specs.declared.Answer.{Answer}
use Rattle.calls.specs.declared.Answer.TheVariants.{Refused}
use Rattle.calls.specs.Indicators.{Indicator}
use Rattle.calls.specs.Answers.{refused_by, on_answer, is_refused, number_of, said}
use Rattle.calls.proofs.SaidLaws.{otherwise-given}
use Rattle.book.specs.declared.Book.{Book}
use Rattle.book.specs.Book.{fresh_book}
use Rattle.filing.specs.declared.Reading.{Reading}
use Rattle.filing.specs.Reader.{Reached, read_as, told}
use Rattle.text.specs.Text.{bytes_of}
use Rattle.text.specs.Buffer.{put_into}
use Rattle.output.specs.Output.{refused_field, reading_text, printed_as}

-- a program that prints a text of the book
module _ (kind : List Indicator) (text : Book → List ℕ) (filing : List ℕ) where
  pub printed-long : 65536 < length filing → bytes_of "too long\n" ≡ printed_as kind text filing
  unfolding printed_as
  printed-long long = rw (lt-ltb 65536 (length filing) long) refl

  module _ (short : length filing ≤ 65536) where
    pub printed-refused : (number : ℕ) → (read_as kind fresh_book filing).said ≡ refused_by number
        → refused_field number (read_as kind fresh_book filing).offset ≡ printed_as kind text filing
    unfolding printed_as reading_text on_answer
    printed-refused number refused = rw (le-ltb 65536 (length filing) short, refused) refl

    pub printed-read : is_refused (read_as kind fresh_book filing).said ≡ false → text (read_as kind fresh_book filing).book ≡ printed_as kind text filing
    unfolding printed_as reading_text
    printed-read fine =
        let r : Reached = read_as kind fresh_book filing in
        rw (
          le-ltb 65536 (length filing) short,
          otherwise-given (λ (number : ℕ). refused_field number r.offset) (text r.book) r.said fine,
        )
        refl

    -- by what reading gave
    module _ (reading : Reading) (same : told reading ≡ read_as kind fresh_book filing) where
      pub at_field : {answer : Answer} (refusal : Refusal) (number : ℕ) → reading.progress.answer ≡ answer → answer ≡ Refused refusal → number ≡ number_of refusal
          → refused_field number reading.progress.offset ≡ printed_as kind text filing
      at_field refusal number is refused given =
          (λ i. refused_field (given i) (same i).offset)
          ∙ printed-refused (number_of refusal) (ap (λ (r : Reached). r.said) (sym same) ∙ ap said (is ∙ refused))

      pub at_end : is_refused (said reading.progress.answer) ≡ false → text reading.book ≡ printed_as kind text filing
      at_end fine = ap (λ (r : Reached). text r.book) same ∙ printed-read (ap (λ (r : Reached). is_refused r.said) (sym same) ∙ fine)

-- a text at the front of a buffer is another that it is equal to
pub as-printed : (old : List ℕ) {count : ℕ} {new text other : List ℕ} → (count ≡ length text) × (new ≡ put_into old text) → text ≡ other
    → (count ≡ length other) × (new ≡ put_into old other)
as-printed old put same = (put.0 ∙ ap length same, put.1 ∙ ap (put_into old) same)
