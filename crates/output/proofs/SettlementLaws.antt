-- What is printed for a book: its report, which always fits, or the line of its refusal.
-- Assumes nothing.
use Prim.Native.Nat.{ℕ, ◌≤◌}
use mathlib.Core.Path.{◌≡◌, refl, sym, ap, subst, ◌∙◌}
use mathlib.Core.List.{List}
use native.Mathlib.Omega.{arith}
use lib.ListN.{length}
use Rattle.book.specs.declared.Book.{Book}
use Rattle.calls.specs.declared.Kind.{Kind}
use Rattle.calls.specs.Indicators.{indicators_of}
use Rattle.calls.specs.Answers.{Said, refused_by, accepted, on_answer, is_refused, Acceptance, yes_said}
use Rattle.settlement.specs.Settlement.{settled_by}
use Rattle.text.specs.Buffer.{put_into}
use Rattle.report.specs.Report.{text_as, reporting_answer, reporting_buffer}
use Rattle.report.proofs.PrintedLaws.{text-fits}
use Rattle.text.proofs.FittingLaws.{fits}
use Rattle.report.proofs.AnswerLaws.{settled-yes, report-accepted, report-refused}
use Rattle.output.specs.Output.{refused_line, settlement_text_as}

-- what a report's answer says of the text to be printed and of the buffer
abbrev pub Told : Kind → Book → List ℕ → Said ℕ → Type 0
Told kind b old (accepted count) = (count ≡ length (settlement_text_as (indicators_of kind) b)) × (reporting_buffer (indicators_of kind) b old ≡ put_into old (settlement_text_as (indicators_of kind) b))
Told kind b old (refused_by number) = (refused_line number ≡ settlement_text_as (indicators_of kind) b) × (reporting_buffer (indicators_of kind) b old ≡ old)

module _ (kind : Kind) (b : Book) (old : List ℕ) where
  accepted-text : (settled_by b (indicators_of kind)).said ≡ accepted yes_said → text_as (indicators_of kind) b ≡ settlement_text_as (indicators_of kind) b
  unfolding settlement_text_as on_answer
  accepted-text fine = rw fine refl

  refused-text : (number : ℕ) → (settled_by b (indicators_of kind)).said ≡ refused_by number → refused_line number ≡ settlement_text_as (indicators_of kind) b
  unfolding settlement_text_as on_answer
  refused-text number refused = rw refused refl

  pub told : 2048 ≤ length old → Told kind b old (reporting_answer (indicators_of kind) b old)
  unfolding is_refused on_answer
  told long = go (settled_by b (indicators_of kind)).said refl
    where
      go : (answer : Said Acceptance) → (settled_by b (indicators_of kind)).said ≡ answer → Told kind b old (reporting_answer (indicators_of kind) b old)
      go (accepted value) fine =
          let yes = settled-yes (indicators_of kind) b (ap is_refused fine) in
          let whole = fits old (text_as (indicators_of kind) b) (omega (arith, text-fits b kind yes, long)) in
          let same = report-accepted (indicators_of kind) b old yes in
          subst (Told kind b old) (whole.0 ∙ same.0)
          (ap length (accepted-text yes), sym (whole.1 ∙ same.1) ∙ ap (put_into old) (accepted-text yes))
      go (refused_by number) refused =
          let same = report-refused (indicators_of kind) b old number refused in
          subst (Told kind b old) same.0 (refused-text number refused, sym same.1)
