-- `rewriting::rewritten_as` meets its contract.
-- Assumes nothing.
use mathlib.Core.Path.{◌≡◌, sym, ap, ◌∙◌}
use native.Mathlib.Omega.{arith}
use mathlib.Core.Bool.{true}
use Rattle.calls.specs.Indicators.{indicators_of}
use Rattle.book.specs.Book.{fresh_book, in_range}
use Rattle.calls.specs.Answers.{is_refused, said}
use Rattle.calls.proofs.SaidLaws.{told-accepted}
use Rattle.filing.specs.Reader.{Reached, read_as, told}
use Rattle.text.specs.Text.{bytes_of}
use Rattle.text.specs.Buffer.{put_into}
use Rattle.output.specs.Output.{refused_field}
use Rattle.output.proofs.RefusalLaws.{at_front}
use Rattle.writing.specs.Written.{written_as}
use Rattle.writing.proofs.WrittenLaws.{written_out}
use Rattle.rewriting.specs.declared.Stream.TheVariants.{Output, Error}
use Rattle.rewriting.specs.Rewriting.{Printout, on_stream, told_of}
use Rattle.rewriting.proofs.PrintoutLaws.{read-in-range, printout-long, printout-refused, printout-read}
use Rattle.rewriting.proofs.rewritten_as.Goals as goal

-- too long
pub returns-then-filing-gt-LONGEST_FILING : goal.returns-then-filing-gt-LONGEST_FILING
unfolding bytes_of
returns-then-filing-gt-LONGEST_FILING c =
    let front = at_front c.args.out.now (bytes_of "too long\n") c.put_word-count.ensures in
    let text = printout-long (indicators_of c.args.kind) c.args.filing.now (omega arith) in
    record { count_value = (λ i. (Error, front.0 i)) ∙ ap told_of text; out_after = front.1 ∙ ap (λ (p : Printout). put_into c.args.out.now p.text) text }

pub put_book-requires : goal.put_book-requires
put_book-requires c =
    let filing = c.args.filing.now in
    let reading = c.read_fresh_as-reading in
    let same : told reading.result ≡ read_as (indicators_of c.args.kind) fresh_book filing = reading.ensures in
    let ranged : in_range (indicators_of c.args.kind) reading.result.book ≡ true = ap (λ (r : Reached). in_range (indicators_of c.args.kind) r.book) same ∙ read-in-range (indicators_of c.args.kind) filing in
    (ranged, omega (arith, c.requires.1, (written_out (indicators_of c.args.kind) reading.result.book ranged).most))

-- a field is refused
pub returns-in-Refused : goal.returns-in-Refused
returns-in-Refused c =
    let filing = c.args.filing.now in
    let reading = c.read_fresh_as-reading in
    let same : told reading.result ≡ read_as (indicators_of c.args.kind) fresh_book filing = reading.ensures in
    let refused = ap (λ (r : Reached). r.said) (sym same) ∙ ap said c.in-Refused.is in
    let number = c.number_of.ensures in
    let line = c.put_refused_field.ensures in
    let text : on_stream Error (refused_field c.number_of.result reading.result.progress.offset) ≡ _ =
    (λ i. on_stream Error (refused_field (number i) (same i).offset)) ∙ printout-refused (indicators_of c.args.kind) filing (omega (arith, c.if-filing-gt-LONGEST_FILING.false)) _ refused in
    record { count_value = (λ i. (Error, line.value i)) ∙ ap told_of text; out_after = line.out_after ∙ ap (λ (p : Printout). put_into c.args.out.now p.text) text }

-- read to its end
pub returns-in_default : goal.returns-in_default
returns-in_default c =
    let filing = c.args.filing.now in
    let reading = c.read_fresh_as-reading in
    let same : told reading.result ≡ read_as (indicators_of c.args.kind) fresh_book filing = reading.ensures in
    let fine = ap (λ (r : Reached). is_refused r.said) (sym same) ∙ told-accepted reading.result.progress.answer c.in_default.not-Refused in
    let bytes = c.put_book.ensures in
    let text = ap (λ (r : Reached). on_stream Output (written_as (indicators_of c.args.kind) r.book)) same ∙ printout-read (indicators_of c.args.kind) filing (omega (arith, c.if-filing-gt-LONGEST_FILING.false)) fine in
    record { count_value = (λ i. (Output, bytes.value i)) ∙ ap told_of text; out_after = bytes.out_after ∙ ap (λ (p : Printout). put_into c.args.out.now p.text) text }
