-- The report by the settlement's answer: yes, or a refusal; the first number in the order is given.
-- Assumes nothing.
use Prim.Native.Nat.{ℕ}
use mathlib.Core.Path.{◌≡◌, refl}
use mathlib.Core.Bool.{false}
use mathlib.Core.List.{List, [], ◌∷◌}
use lib.ListN.{length}
use Rattle.book.specs.declared.Book.{Book}
use Rattle.calls.specs.Answers.{refused_by, accepted, on_answer, is_refused, yes_said}
use Rattle.calls.specs.Laws.{rank, place_from, stand_from, First}
use Rattle.calls.proofs.First.{first-in-order, only-value, first-refuses, first_passes}
use Rattle.calls.specs.Indicators.{Indicator}
use Rattle.settlement.specs.Settlement.{settling_lines, settled_by}
use Rattle.text.specs.Buffer.{too_short, buffer_after, fitting}
use Rattle.report.specs.Report.{text_as, reporting_lines, reporting_answer, reporting_buffer}

pub first-of-reports : (kind : List Indicator) (b : Book) (buffer : List ℕ) → First (reporting_lines kind b buffer) (length (text_as kind b))
unfolding rank place_from stand_from reporting_lines settling_lines
first-of-reports kind b buffer = first-in-order (length (text_as kind b)) (reporting_lines kind b buffer) refl

module _ (kind : List Indicator) (b : Book) where
  -- settling that does not refuse says yes
  pub settled-yes : is_refused (settled_by b kind).said ≡ false → (settled_by b kind).said ≡ accepted yes_said
  unfolding settled_by
  settled-yes fine = only-value (settling_lines b kind) yes_said fine

  module _ (buffer : List ℕ) where
    pub report-accepted : (settled_by b kind).said ≡ accepted yes_said
        → (fitting buffer (text_as kind b) ≡ reporting_answer kind b buffer) × (buffer_after buffer (text_as kind b) (fitting buffer (text_as kind b)) ≡ reporting_buffer kind b buffer)
    unfolding settled_by reporting_answer reporting_buffer reporting_lines fitting
    report-accepted fine =
        rw (first_passes ((13, too_short buffer (text_as kind b)) ∷ []) (length (text_as kind b)) yes_said (settling_lines b kind) fine) (refl, refl)

    pub report-refused : (number : ℕ) → (settled_by b kind).said ≡ refused_by number
        → (refused_by number ≡ reporting_answer kind b buffer) × (buffer ≡ reporting_buffer kind b buffer)
    unfolding settled_by reporting_answer reporting_buffer reporting_lines buffer_after on_answer
    report-refused number refused =
        rw (first-refuses ((13, too_short buffer (text_as kind b)) ∷ []) (length (text_as kind b)) yes_said (settling_lines b kind) number refused) (refl, refl)
