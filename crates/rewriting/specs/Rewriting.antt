-- What the programs that rewrite print for the bytes of a filing: the book that they give, written out, or the line that tells the refusal.
-- Assumes nothing.
use Rattle.std.specs.Prelude.{ℕ, cond, List, ltb, length}
use Rattle.rewriting.specs.declared.Stream.{Stream}
use Rattle.rewriting.specs.declared.Stream.TheVariants.{Output, Error}
use Rattle.calls.specs.Indicators.{Indicator, electricity, gas}
use Rattle.calls.specs.Answers.{on_answer, Acceptance}
use Rattle.book.specs.Book.{fresh_book}
use Rattle.filing.specs.Reader.{Reached, read_as}
use Rattle.text.specs.Text.{bytes_of}
use Rattle.output.specs.Output.{refused_field}
use Rattle.writing.specs.Written.{written_as}

-- a text and where it goes; the other stream stays empty
pub record Printout : Type 0 where
  pub stream : Stream
  pub text : List ℕ

abbrev pub on_stream : Stream → List ℕ → Printout
on_stream stream text = record { stream = stream; text = text }

-- of filings and books of a kind
module _ (kind : List Indicator) where
  -- a filing that was read: the line of the first field refused, or the book's written filing
  unfoldable pub written_or : Reached → Printout
  written_or r =
      on_answer (λ (number : ℕ). on_stream Error (refused_field number r.offset))
      (λ (value : Acceptance). on_stream Output (written_as kind r.book)) r.said

  unfoldable pub printout_as : List ℕ → Printout
  printout_as filing = cond (ltb 65536 (length filing)) (on_stream Error (bytes_of "too long\n")) (written_or (read_as kind fresh_book filing))

abbrev pub printout_of : List ℕ → Printout
printout_of = printout_as electricity

abbrev pub gas_printout_of : List ℕ → Printout
gas_printout_of = printout_as gas

-- where a text goes and how many bytes it has
abbrev pub told_of : Printout → Stream × ℕ
told_of printout = (printout.stream, length printout.text)
