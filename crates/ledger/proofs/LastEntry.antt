-- An entry after others of other figures: what entering them all gives, by what the others give and what becomes of its figure.
-- Assumes nothing.
use mathlib.Core.Path.{◌≡◌, refl, sym, ap, ◌∙◌}
use mathlib.Core.Logic.{◌≢◌, inl, inr}
use mathlib.Core.Bool.{Bool, true, false, ◌||◌, false≢true}
use mathlib.Core.List.{List, [], ◌∷◌, ◌++◌}
use Prim.Native.Nat.{ℕ}
use lib.ListN.{get_or, set}
use lib.Seq.{get_or-set_other}
use Rattle.book.specs.declared.Book.{Book}
use Rattle.calls.specs.Answers.{is_refused, on_answer, first_of, Acceptance}
use Rattle.calls.specs.Call.{Entry}
use Rattle.calls.proofs.Flags.{or-false-right, or_true_right}
use Rattle.book.specs.Book.{with_figures, figure_slot, figure_of}
use Rattle.calls.specs.Indicators.{some}
use Rattle.ledger.specs.Table.{passes_limit, falls_below}
use Rattle.ledger.specs.Calls.{Outcome, entered, enter_all, outcome_of}
use Rattle.ledger.specs.Steps.{entering}
use Rattle.ledger.proofs.AdmissionLaws.{refused_call, accepted_call}
use Rattle.ledger.proofs.MoveLaws.{passes, falls, no-limit, none_passes, Signed, placed, figure_at, Stops, MovesAt}

-- none of a list's entries is of a place
abbrev pub Apart : List Entry → ℕ → Type 0
Apart [] slot = Unit {0}
Apart (entry ∷ rest) slot = (figure_slot entry.operator entry.year entry.figure ≢ slot) × Apart rest slot

some-last : (test : Entry → Bool) (list : List Entry) (entry : Entry) → some test (list ++ (entry ∷ [])) ≡ some test list || test entry
unfolding some
some-last test [] entry = or-false-right (test entry)
some-last test (x ∷ rest) entry = go (test x) (some-last test rest entry)
  where
    go : (t : Bool) → some test (rest ++ (entry ∷ [])) ≡ some test rest || test entry → t || some test (rest ++ (entry ∷ [])) ≡ (t || some test rest) || test entry
    go true later = refl
    go false later = later

enter-last : (list : List Entry) (b : Book) (entry : Entry) → enter_all b (list ++ (entry ∷ [])) ≡ entered (enter_all b list) entry
unfolding enter_all
enter-last [] b entry = refl
enter-last (x ∷ rest) b entry = enter-last rest (entered b x) entry

-- entries of other places leave what stands at one
kept_at : (list : List Entry) (b : Book) (slot : ℕ) → Apart list slot → get_or (enter_all b list).figures slot 0 ≡ get_or b.figures slot 0
unfolding enter_all entered
kept_at [] b slot apart = refl
kept_at (entry ∷ rest) b slot apart =
    kept_at rest (entered b entry) slot apart.1
    ∙ get_or-set_other b.figures (figure_slot entry.operator entry.year entry.figure) slot _ 0 (λ same. apart.0 (sym same))

module _ (b : Book) (list : List Entry) (entry : Entry) (value : Acceptance) where
  abbrev both : List Entry
  both = list ++ (entry ∷ [])

  pub last-above : passes entry.sign entry.value (figure_at b entry) ≡ true → entering b both value ≡ refused_call b 8
  unfolding entering first_of outcome_of on_answer passes_limit
  last-above e = rw (some-last (passes_limit (figure_of b)) list entry, e, or_true_right (some (passes_limit (figure_of b)) list)) refl

  pub last-below : Signed list entry.sign → falls entry.sign entry.value (figure_at b entry) ≡ true → entering b both value ≡ refused_call b 9
  unfolding entering first_of outcome_of on_answer passes_limit falls_below
  last-below signs e =
      rw (
        some-last (passes_limit (figure_of b)) list entry,
        some-last (falls_below (figure_of b)) list entry,
        none_passes (figure_of b) list entry.sign entry.value (figure_at b entry) e signs,
        no-limit entry.sign entry.value (figure_at b entry) entry.value (figure_at b entry) e,
        e,
        or_true_right (some (falls_below (figure_of b)) list),
      )
      refl

  pub last-stopped : (number : ℕ) → Signed list entry.sign → Stops entry.sign entry.value (figure_at b entry) number → entering b both value ≡ refused_call b number
  last-stopped number signs (inl stop) = rw stop.0 (last-above stop.1)
  last-stopped number signs (inr stop) = rw stop.0 (last-below signs stop.1)

  module _ (new : ℕ) (moves : MovesAt b entry new) where
    -- refused for one of the others
    pub last-refused : (number : ℕ) → entering b list value ≡ refused_call b number → entering b both value ≡ refused_call b number
    unfolding entering first_of outcome_of on_answer passes_limit falls_below is_refused
    last-refused number e =
        rw (
          some-last (passes_limit (figure_of b)) list entry,
          some-last (falls_below (figure_of b)) list entry,
          moves.below_limit,
          moves.above_zero,
          or-false-right (some (passes_limit (figure_of b)) list),
          or-false-right (some (falls_below (figure_of b)) list),
        )
        (go (some (passes_limit (figure_of b)) list) (some (falls_below (figure_of b)) list) e)
      where
        by : Book → Bool → Bool → Outcome
        by after s t = outcome_of b after (first_of ((8, s) ∷ (9, t) ∷ []) value)

        go : (s t : Bool) → by (enter_all b list) s t ≡ refused_call b number → by (enter_all b both) s t ≡ refused_call b number
        go true t same = same
        go false true same = same
        go false false same = absurd (false≢true (ap (λ (o : Outcome). is_refused o.said) same))

    -- entered after the others
    pub last-moved : (after : Book) → Apart list (placed b entry) → entering b list value ≡ accepted_call after value
        → entering b both value ≡ accepted_call (with_figures after (set after.figures (placed b entry) new)) value
    unfolding entering first_of outcome_of on_answer passes_limit falls_below is_refused entered figure_of
    last-moved after apart e =
        rw (
          some-last (passes_limit (figure_of b)) list entry,
          some-last (falls_below (figure_of b)) list entry,
          moves.below_limit,
          moves.above_zero,
          or-false-right (some (passes_limit (figure_of b)) list),
          or-false-right (some (falls_below (figure_of b)) list),
          enter-last list b entry,
          kept_at list b (placed b entry) apart,
          moves.reaches,
        )
        (go (some (passes_limit (figure_of b)) list) (some (falls_below (figure_of b)) list) e)
      where
        stored : Book → Book
        stored c = with_figures c (set c.figures (placed b entry) new)

        by : Book → Bool → Bool → Outcome
        by c s t = outcome_of b c (first_of ((8, s) ∷ (9, t) ∷ []) value)

        go : (s t : Bool) → by (enter_all b list) s t ≡ accepted_call after value → by (stored (enter_all b list)) s t ≡ accepted_call (stored after) value
        go true t same = absurd (false≢true (sym (ap (λ (o : Outcome). is_refused o.said) same)))
        go false true same = absurd (false≢true (sym (ap (λ (o : Outcome). is_refused o.said) same)))
        go false false same = ap (λ (o : Outcome). accepted_call (stored o.book) value) same
