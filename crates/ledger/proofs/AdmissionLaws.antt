-- What `apply` gives, line by line of the table of answers: callers cite these and never look into the table.
-- Assumes nothing.
use mathlib.Core.Path.{◌≡◌, refl, subst, ◌∙◌}
use mathlib.Core.List.{List, [], ◌∷◌, ◌++◌}
use mathlib.Core.Bool.{Bool, true, false, not}
use Prim.Native.Nat.{ℕ, ◌<◌}
use borrow.Author.Tests.{leb-false}
use lib.Dec.{leb}
use lib.IntN.{ℤ}
use Rattle.book.specs.declared.Book.{Book}
use Rattle.calls.specs.declared.Call.{Call}
use Rattle.calls.specs.Limits.{operators}
use Rattle.calls.specs.Masks.{has}
use Rattle.calls.specs.Answers.{Said, refused_by, accepted, on_answer, first_of, Acceptance}
use Rattle.calls.proofs.Flags.{or-false-right}
use Rattle.book.specs.Book.{is_joined, figure_of}
use Rattle.calls.specs.Indicators.{Indicator, some}
use Rattle.calls.specs.Call.{starts_after_end, outside_period, facts_of}
use Rattle.ledger.specs.Table.{lines_for, passes_limit, falls_below, answer_to}
use Rattle.ledger.specs.Calls.{Outcome, enter_all, changed, outcome_of, apply}
use Rattle.ledger.specs.Steps.{member_lines, interruption_lines, entering}

-- what a refused call gives, and an accepted one
abbrev pub refused_call : Book → ℕ → Outcome
refused_call b number = record { book = b; said = refused_by number }

abbrev pub accepted_call : Book → Acceptance → Outcome
accepted_call b value = record { book = b; said = accepted value }

-- 2, 4, 6 and 7 of a call
abbrev pub is_unknown : List Indicator → Call → Bool
is_unknown kind call = some (leb operators) ((facts_of kind call).newcomers ++ (facts_of kind call).members)

abbrev pub joins_again : List Indicator → (ℕ → Bool) → Call → Bool
joins_again kind joined call = some joined (facts_of kind call).newcomers

abbrev pub lacks_operator : List Indicator → (ℕ → Bool) → Call → Bool
lacks_operator kind joined call = some (λ (operator : ℕ). not (joined operator)) (facts_of kind call).members

module _ (kind : List Indicator) (b : Book) (call : Call) where
  -- 2
  pub unknown-call : (facts_of kind call).known ≡ false → apply kind b call ≡ refused_call b 2
  unfolding apply outcome_of on_answer answer_to lines_for first_of
  unknown-call none = rw none refl

module _ (kind : List Indicator) (b : Book) (call : Call) (had : (facts_of kind call).known ≡ true) where
  -- 4
  pub unknown-operator : is_unknown kind call ≡ true → apply kind b call ≡ refused_call b 4
  unfolding apply outcome_of on_answer answer_to lines_for first_of
  unknown-operator above = rw (had, above) refl

  module _ (known : is_unknown kind call ≡ false) where
    -- 5
    pub out_of_range : (facts_of kind call).within_range ≡ false → apply kind b call ≡ refused_call b 5
    unfolding apply outcome_of on_answer answer_to lines_for first_of
    out_of_range outside = rw (had, known, outside) refl

    module _ (valid : (facts_of kind call).within_range ≡ true) where
      -- 14
      pub starts-late : (facts_of kind call).times_reversed ≡ true → apply kind b call ≡ refused_call b 14
      unfolding apply outcome_of on_answer answer_to lines_for first_of
      starts-late late = rw (had, known, valid, late) refl

      module _ (ordered : (facts_of kind call).times_reversed ≡ false) where
        -- 15
        pub out-of-time : (facts_of kind call).times_outside ≡ true → apply kind b call ≡ refused_call b 15
        unfolding apply outcome_of on_answer answer_to lines_for first_of
        out-of-time outside = rw (had, known, valid, ordered, outside) refl

        module _ (timely : (facts_of kind call).times_outside ≡ false) where
          -- 6
          pub already-joined : joins_again kind (is_joined b) call ≡ true → apply kind b call ≡ refused_call b 6
          unfolding apply outcome_of on_answer answer_to lines_for first_of
          already-joined again = rw (had, known, valid, ordered, timely, again) refl

          module _ (first : joins_again kind (is_joined b) call ≡ false) where
            -- 7
            pub not-joined : lacks_operator kind (is_joined b) call ≡ true → apply kind b call ≡ refused_call b 7
            unfolding apply outcome_of on_answer answer_to lines_for first_of
            not-joined lacking = rw (had, known, valid, ordered, timely, first, lacking) refl

            module _ (there : lacks_operator kind (is_joined b) call ≡ false) where
              -- 8 and 9 are left
              pub admitted : apply kind b call
                  ≡ outcome_of b (changed kind b call)
                  (first_of ((8, some (passes_limit (figure_of b)) (facts_of kind call).entries) ∷ (9, some (falls_below (figure_of b)) (facts_of kind call).entries) ∷ []) (facts_of kind call).answer)
              unfolding apply answer_to lines_for first_of
              admitted = rw (had, known, valid, ordered, timely, first, there) refl

              -- a call that enters nothing
              pub done : (facts_of kind call).entries ≡ [] → apply kind b call ≡ accepted_call (changed kind b call) (facts_of kind call).answer
              unfolding outcome_of on_answer first_of some
              done none = admitted ∙ rw none refl

-- a call that names one member and nobody else, by what 4, 5, 14, 15 and 7 say
module _ (kind : List Indicator) (b : Book) (call : Call) (operator : ℕ) (valid late outside : Bool) where
  -- a member that passed them
  pub record Passed : Type 0 where
    pub small : operator < operators
    pub within_range : valid ≡ true
    pub ordered : late ≡ false
    pub timely : outside ≡ false
    pub done : (facts_of kind call).entries ≡ [] → apply kind b call ≡ accepted_call (changed kind b call) (facts_of kind call).answer
    pub entered : changed kind b call ≡ enter_all b (facts_of kind call).entries → apply kind b call ≡ entering b (facts_of kind call).entries (facts_of kind call).answer

  abbrev pub Decides : Said (Unit {0}) → Type 0
  Decides (refused_by number) = apply kind b call ≡ refused_call b number
  Decides (accepted value) = Passed

module _ (kind : List Indicator) (b : Book) (call : Call) (operator : ℕ) (valid : Bool) (had : (facts_of kind call).known ≡ true)
    (joins : (facts_of kind call).newcomers ≡ []) (names : (facts_of kind call).members ≡ operator ∷ []) (ranged : (facts_of kind call).within_range ≡ valid) where
  known_is : {t : Bool} → leb operators operator ≡ t → is_unknown kind call ≡ t
  unfolding some
  known_is e = rw (joins, names, or-false-right) e

  joins-none : joins_again kind (is_joined b) call ≡ false
  unfolding some
  joins-none = rw joins refl

  lacks-is : {t : Bool} → not (has b.joined operator) ≡ t → lacks_operator kind (is_joined b) call ≡ t
  unfolding some is_joined
  lacks-is e = rw (names, or-false-right) e

  module _ (late outside : Bool) (begins : (facts_of kind call).times_reversed ≡ late) (timed : (facts_of kind call).times_outside ≡ outside) where
    decide : (t u v w x : Bool) → leb operators operator ≡ t → valid ≡ u → late ≡ v → outside ≡ w → not (has b.joined operator) ≡ x
        → Decides kind b call operator valid late outside (first_of ((4, t) ∷ (5, not u) ∷ (14, v) ∷ (15, w) ∷ (7, x) ∷ []) tt)
    unfolding first_of entering
    decide true u v w x k r s o l = unknown-operator kind b call had (known_is k)
    decide false false v w x k r s o l = out_of_range kind b call had (known_is k) (ranged ∙ r)
    decide false true true w x k r s o l = starts-late kind b call had (known_is k) (ranged ∙ r) (begins ∙ s)
    decide false true false true x k r s o l = out-of-time kind b call had (known_is k) (ranged ∙ r) (begins ∙ s) (timed ∙ o)
    decide false true false false true k r s o l =
        not-joined kind b call had (known_is k) (ranged ∙ r) (begins ∙ s) (timed ∙ o) joins-none (lacks-is l)
    decide false true false false false k r s o l =
        record {
          small = leb-false operators operator k;
          within_range = r;
          ordered = s;
          timely = o;
          done = done kind b call had (known_is k) (ranged ∙ r) (begins ∙ s) (timed ∙ o) joins-none (lacks-is l);
          entered = λ e. admitted kind b call had (known_is k) (ranged ∙ r) (begins ∙ s) (timed ∙ o) joins-none (lacks-is l) ∙ rw e refl;
        }

  -- a call without times
  pub member-decided : (facts_of kind call).times_reversed ≡ false → (facts_of kind call).times_outside ≡ false
      → (answer : Said (Unit {0})) → first_of (member_lines b.joined operator valid) tt ≡ answer → Decides kind b call operator valid false false answer
  unfolding member_lines first_of
  member-decided begins timed answer e =
      subst (Decides kind b call operator valid false false) e (decide false false begins timed _ _ _ _ _ refl refl refl refl refl)

  -- an interruption
  pub interruption-decided : (start end : ℤ) → (facts_of kind call).times_reversed ≡ starts_after_end start end → (facts_of kind call).times_outside ≡ outside_period start end
      → (answer : Said (Unit {0})) → first_of (interruption_lines b.joined operator valid start end) tt ≡ answer
      → Decides kind b call operator valid (starts_after_end start end) (outside_period start end) answer
  unfolding interruption_lines
  interruption-decided start end begins timed answer e =
      subst (Decides kind b call operator valid (starts_after_end start end) (outside_period start end)) e
      (decide (starts_after_end start end) (outside_period start end) begins timed _ _ _ _ _ refl refl refl refl refl)
