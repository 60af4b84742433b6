-- An entry after others of other figures: it moves its figure, or leaves it where the others are refused.
-- Assumes nothing.
use mathlib.Core.Path.{◌≡◌, refl, ◌∙◌}
use mathlib.Core.Bool.{Bool, true, false}
use mathlib.Core.List.{List, [], ◌∷◌, ◌++◌}
use Prim.Native.Nat.{ℕ}
use lib.ListN.{set}
use lib.Seq.{set-get_or}
use Rattle.book.specs.declared.Book.{Book}
use Rattle.calls.specs.Answers.{Said, on_answer, Acceptance}
use Rattle.calls.specs.Call.{Entry}
use Rattle.book.specs.Book.{with_figures, figure_of}
use Rattle.calls.specs.Indicators.{some}
use Rattle.ledger.specs.Table.{passes_limit, falls_below}
use Rattle.ledger.specs.Calls.{Outcome, enter_all}
use Rattle.ledger.specs.Steps.{entering}
use Rattle.ledger.proofs.AdmissionLaws.{refused_call}
use Rattle.ledger.proofs.MoveLaws.{placed, figure_at, MovesAt, refused-above, refused-below, entered_all}
use Rattle.ledger.proofs.LastEntry.{Apart, last-refused, last-moved}

module _ (b : Book) (list : List Entry) (entry : Entry) (value : Acceptance) where
  abbrev both : List Entry
  both = list ++ (entry ∷ [])

  module _ (new : ℕ) (moves : MovesAt b entry new) where
    -- after what the others are answered and leave: the last one's figure moves, or stays where they are refused
    pub last-follows : Apart list (placed b entry) → (told : Said Acceptance) (after : Book) → told ≡ (entering b list value).said → after ≡ (entering b list value).book
        → (told ≡ (entering b both value).said)
        × (with_figures after (set after.figures (placed b entry) (on_answer (λ (number : ℕ). figure_at b entry) (λ (v : Acceptance). new) told)) ≡ (entering b both value).book)
    unfolding on_answer figure_of
    last-follows apart told after told_is after_is =
        rw (told_is, after_is) (go (some (passes_limit (figure_of b)) list) (some (falls_below (figure_of b)) list) refl refl)
      where
        follows : Outcome → Outcome
        follows o =
            record {
              book = with_figures o.book (set o.book.figures (placed b entry) (on_answer (λ (number : ℕ). figure_at b entry) (λ (v : Acceptance). new) o.said));
              said = o.said;
            }

        same : entering b both value ≡ follows (entering b list value) → ((entering b list value).said ≡ (entering b both value).said) × ((follows (entering b list value)).book ≡ (entering b both value).book)
        same e = rw e (refl, refl)

        stayed : (number : ℕ) → entering b list value ≡ refused_call b number → entering b both value ≡ follows (entering b list value)
        stayed number e = rw (last-refused b list entry value new moves number e, e, set-get_or b.figures (placed b entry) 0) refl

        go : (s t : Bool) → some (passes_limit (figure_of b)) list ≡ s → some (falls_below (figure_of b)) list ≡ t
            → ((entering b list value).said ≡ (entering b both value).said) × ((follows (entering b list value)).book ≡ (entering b both value).book)
        go true t p f = same (stayed 8 (refused-above b list value p))
        go false true p f = same (stayed 9 (refused-below b list value p f))
        go false false p f =
            let e = entered_all b list value p f in
            same (last-moved b list entry value new moves (enter_all b list) apart e ∙ rw e refl)
