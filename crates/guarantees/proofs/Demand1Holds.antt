-- Demand 1 holds, as specs/Demand1.antt says: one law turns the first line of a table that applies into what a call says and leaves.
-- Assumes nothing.
use Prim.Native.Nat.{ℕ, ◌≤◌, ◌<◌}
use mathlib.Core.Path.{◌≡◌, refl, ap}
use mathlib.Core.Bool.{Bool, true, false, not}
use mathlib.Core.List.{List, [], ◌∷◌}
use native.Mathlib.Omega.{arith}
use lib.Dec.{leb, ltb, eqb}
use lib.ListN.{length}
use borrow.Author.Tests.{ne_eqb, le-leb, lt-ltb}
use Rattle.calls.specs.declared.Call.{Call}
use Rattle.calls.specs.declared.Call.TheVariants.{Amount}
use Rattle.calls.specs.Limits.{operators, years, figure_count}
use Rattle.calls.specs.Answers.{on_answer, first_of, yes_said}
use Rattle.calls.specs.Call.{facts_of}
use Rattle.calls.specs.Laws.{rank, place_from, applies, stand_from, First}
use Rattle.calls.proofs.Flags.{and-true-right, and-false-right, or-false-right}
use Rattle.calls.proofs.First.{ranked, first-in-order}
use Rattle.calls.proofs.KindLaws.{figure-taken, has-them}
use Rattle.calls.specs.declared.Kind.TheVariants.{Electricity}
use Rattle.book.specs.declared.Book.{Book}
use Rattle.book.specs.Book.{is_joined, figure_of, in_range}
use Rattle.ledger.specs.Table.{lines_for, answer_to}
use Rattle.ledger.specs.Calls.{outcome_of, changed, apply, file_as}
use Rattle.ledger.proofs.FirstOfCalls.{first-of-calls}
use Rattle.fields.proofs.FirstOfFields.{first-of-fields, field-answered}
use Rattle.filing.specs.Reader.{read_from_as, read_as}
use Rattle.filing.proofs.ReadLaws.{read-as-calls}
use Rattle.calls.specs.Indicators.{Indicator, electricity, gas, some}
use Rattle.settlement.specs.Settlement.{settling_lines, nothing, settlement_by, settled_by}
use Rattle.settlement.proofs.SettledLaws.{first-of-settling}
use Rattle.sheets.specs.Sheet.{counts_of, no_counts, sheet_of, sheet_lines}
use Rattle.sheets.proofs.SheetLaws.{sheet-by-lines, first-of-sheets}
use Rattle.text.specs.Buffer.{put_into, buffer_after}
use Rattle.report.specs.Report.{text_as, reporting_lines, reporting_answer, reporting_buffer}
use Rattle.report.proofs.AnswerLaws.{first-of-reports}
use Rattle.writing.specs.Written.{written_as}
use Rattle.writer.specs.Writer.{writing_lines, writing_answer, writing_buffer}
use Rattle.writer.proofs.AnswerLaws.{first-of-writing}
use Rattle.guarantees.specs.Demand1.{Judged, call_lines, Demand1Of, Demand1}

judged : {A S : Type 0} (lines : List (ℕ × Bool)) (value : A) (before after : S) → First lines value
    → Judged lines value (first_of lines value) (on_answer (λ number. before) (λ value. after) (first_of lines value)) before after
unfolding on_answer
judged lines value before after first =
    record {
      number = first.refused;
      answered = first.answered;
      kept = λ n refused. rw refused refl;
      done = λ none. rw (first.answered.1 none) refl;
    }

-- the one line of a book out of range
only-five : (kind : List Indicator) (call : Call) → First ((5, true) ∷ []) (facts_of kind call).answer
unfolding rank place_from stand_from
only-five kind call = first-in-order (facts_of kind call).answer ((5, true) ∷ []) refl

module _ (kind : List Indicator) (b : Book) (call : Call) where
  filed : (ranged : Bool) → in_range kind b ≡ ranged
      → Judged (call_lines kind b call) (facts_of kind call).answer (file_as kind b call).said (file_as kind b call).book b (changed kind b call)
  unfolding call_lines file_as apply outcome_of answer_to first_of on_answer
  filed true ranged =
      rw ranged (judged (lines_for kind (is_joined b) (figure_of b) call) (facts_of kind call).answer b (changed kind b call) (first-of-calls kind (is_joined b) (figure_of b) call))
  filed false out = rw out (judged ((5, true) ∷ []) (facts_of kind call).answer b (changed kind b call) (only-five kind call))

settling-judged : (b : Book) (indicators : List Indicator)
    → Judged (settling_lines b indicators) yes_said (settled_by b indicators).said (settled_by b indicators).settlement nothing (settlement_by b indicators)
unfolding settled_by
settling-judged b indicators =
    judged (settling_lines b indicators) yes_said nothing (settlement_by b indicators) (first-of-settling b indicators)

sheets-judged : (b : Book) (operator year : ℕ)
    → Judged (sheet_lines b operator year) yes_said (sheet_of b operator year).said (sheet_of b operator year).counts no_counts (counts_of b operator year)
unfolding sheet_of on_answer
sheets-judged b operator year =
    rw (sheet-by-lines b operator year) (judged (sheet_lines b operator year) yes_said no_counts (counts_of b operator year) (first-of-sheets b operator year))

-- the lines 4 to 7 of an amount are those of a sheet
module _ (b : Book) (operator year figure sign value : ℕ) (lf : figure < figure_count) (ls : sign ≤ 1) (n : ℕ) (early : rank n ≤ rank 7) where
  as-amount : (ranged : Bool) → in_range electricity b ≡ ranged
      → applies (sheet_lines b operator year) n ≡ applies (call_lines electricity b (Amount operator year figure sign value)) n
  unfolding rank place_from sheet_lines call_lines lines_for facts_of some applies
  as-amount false out = rw out refl
  as-amount true ranged =
      rw (
        ranged,
        lt-ltb figure figure_count lf,
        figure-taken Electricity figure lf,
        has-them,
        le-leb sign 1 ls,
        and-true-right (ltb year years),
        and-true-right (ltb year years),
        and-true-right (ltb year years),
        or-false-right (leb operators operator),
        or-false-right (not (is_joined b operator)),
        ne_eqb 8 n (λ e. omega (arith, early, ap rank e)),
        ne_eqb 9 n (λ e. omega (arith, early, ap rank e)),
        and-false-right (eqb 14 n),
        and-false-right (eqb 15 n),
        and-false-right (eqb 6 n),
        and-false-right (eqb 2 n),
      )
      refl

demand-1-of : (kind : List Indicator) → Demand1Of kind
unfolding read_as read_from_as writing_answer writing_buffer reporting_answer reporting_buffer buffer_after
demand-1-of kind =
    record {
      filing = λ b call answer after files. rw (files.0, files.1) (filed kind b call (in_range kind b) refl);
      filing_defined = λ b call. filed kind b call (in_range kind b) refl;
      table = first-of-calls kind;
      field = field-answered kind;
      field_table = first-of-fields kind;
      reads = read-as-calls kind;
      reads_out_of_range = λ b bytes out. rw out refl;
      settles = λ b. settling-judged b kind;
      writes = λ b buffer. judged (writing_lines kind b buffer) (length (written_as kind b)) buffer (put_into buffer (written_as kind b)) (first-of-writing kind b buffer);
      reports = λ b buffer. judged (reporting_lines kind b buffer) (length (text_as kind b)) buffer (put_into buffer (text_as kind b)) (first-of-reports kind b buffer);
    }

pub demand-1 : Demand1
demand-1 =
    record {
      order = ranked;
      of_electricity = demand-1-of electricity;
      of_gas = demand-1-of gas;
      by_list = demand-1-of;
      sheets = sheets-judged;
      sheets_as_amounts = λ b operator year figure sign value lf ls n early. as-amount b operator year figure sign value lf ls n early (in_range electricity b) refl;
    }
