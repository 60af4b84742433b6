-- Demand 3 holds, as specs/Demand3.antt says: put together from the laws of calls in turn, history, writing and settling.
-- Assumes nothing.
use Prim.Native.Nat.{ℕ}
use mathlib.Core.Path.{◌≡◌, ap, ◌∙◌}
use mathlib.Core.Logic.{◌↔◌}
use mathlib.Core.List.{List, map}
use lib.ListN.{length, take}
use lib.Seq.{take-append_seam}
use Rattle.calls.specs.declared.Call.{Call}
use Rattle.calls.specs.Answers.{accepted, on_answer, is_refused, said}
use Rattle.calls.specs.Held.{Same}
use Rattle.calls.proofs.First.{only-value}
use Rattle.book.specs.declared.Book.{Book}
use Rattle.book.specs.Book.{fresh_book}
use Rattle.ledger.specs.Calls.{filed_answers}
use Rattle.ledger.proofs.TurnLaws.{as_taken_in_turn, has_run}
use Rattle.text.specs.Buffer.{put_into, buffer_after}
use Rattle.writing.specs.Written.{written_as}
use Rattle.writer.specs.Writer.{writing_lines, writing_answer, writing_buffer}
use Rattle.history.specs.History.{held_in}
use Rattle.history.specs.Demand.{book_of, history_of}
use Rattle.history.proofs.Kept.{kept, equal_as_histories}
use Rattle.sheets.proofs.TotalLaws.{sheets-add-up}
use Rattle.calls.specs.Indicators.{Indicator, electricity, gas}
use Rattle.settlement.proofs.SettledLaws.{settling, worth-electricity, worth-gas}
use Rattle.writing.proofs.WrittenLaws.{written_out}
use Rattle.guarantees.proofs.CountsAside.{settled_same}
use Rattle.guarantees.specs.Demand3.{CodeRun, OneList, TwoLists, SettlingBook, Demand3Of, Demand3}

module _ (kind : List Indicator) where
  put_out : (b : Book) (buffer : List ℕ) (count : ℕ) → writing_answer kind b buffer ≡ accepted count → take count (writing_buffer kind b buffer) ≡ written_as kind b
  unfolding writing_answer writing_buffer buffer_after on_answer is_refused put_into
  put_out b buffer count answered =
      let value = only-value (writing_lines kind b buffer) (length (written_as kind b)) (ap is_refused answered) in
      let counted : count ≡ length (written_as kind b) = cc in
      rw (answered, counted) (take-append_seam (written_as kind b) _)

  -- what a run says and leaves is what is defined
  module _ (calls : List Call) (run : CodeRun kind calls) where
    says : map said run.answers ≡ filed_answers kind fresh_book calls
    says = (as_taken_in_turn kind calls run.answers fresh_book run.last run.as_taken_in_turn).0

    leaves : run.last ≡ book_of kind calls
    leaves = (as_taken_in_turn kind calls run.answers fresh_book run.last run.as_taken_in_turn).1

  -- what holds of the defined books of two lists holds of the last books of two runs
  of-runs : (calls others : List Call) (P : Book → Book → Type 0) → P (book_of kind calls) (book_of kind others)
      → (run : CodeRun kind calls) (other : CodeRun kind others) → P run.last other.last
  of-runs calls others P it run other = rw (leaves calls run, leaves others other) it

  filings_defined : (calls others : List Call) → (book_of kind calls ≡ book_of kind others) ↔ (written_as kind (book_of kind calls) ≡ written_as kind (book_of kind others))
  filings_defined calls others = (written_out kind (book_of kind calls) (kept kind calls).within_range).told_apart (book_of kind others) (kept kind others).within_range

  one_list : (calls : List Call) → OneList kind calls
  one_list calls =
      let run = has_run kind calls fresh_book in
      record {
        answers = λ run. says calls run ∙ (kept kind calls).answers;
        held = λ run. rw (leaves calls run) (kept kind calls).held;
        covered = (kept kind calls).covered;
        within_range = λ run. rw (leaves calls run) (kept kind calls).within_range;
        has_run = record { answers = run.0; last = book_of kind calls; as_taken_in_turn = run.1 };
        last_defined = leaves calls;
        answers_defined = (kept kind calls).answers;
        held_defined = (kept kind calls).held;
        in_range_defined = (kept kind calls).within_range;
      }

  two_lists : (calls others : List Call) → TwoLists kind calls others
  two_lists calls others =
      record {
        equal_as_histories =
            of-runs calls others (λ b other. (b ≡ other) ↔ Same (held_in (history_of kind calls)) (held_in (history_of kind others))) (equal_as_histories kind calls others);
        equal_as_filings = of-runs calls others (λ b other. (b ≡ other) ↔ (written_as kind b ≡ written_as kind other)) (filings_defined calls others);
        put_out = put_out;
        histories_defined = equal_as_histories kind calls others;
        filings_defined = filings_defined calls others;
      }

  settling-book : (b : Book) → SettlingBook kind b
  settling-book b = record { alike = (settling b kind).alike; exactly = (settling b kind).exactly; balanced = (settling b kind).balanced }

  demand-3-of : Demand3Of kind
  demand-3-of = record { one_list = one_list; two_lists = two_lists; settling = settling-book }

pub demand-3 : Demand3
demand-3 =
    record {
      of_electricity = demand-3-of electricity;
      electricity_worth = worth-electricity;
      of_gas = demand-3-of gas;
      gas_worth = worth-gas;
      by_list = demand-3-of;
      sheets = λ calls run operator known. rw (leaves electricity calls run) (sheets-add-up calls operator known);
      counts_aside = λ b figures ranged same. settled_same b figures same ranged;
    }
