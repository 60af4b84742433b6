-- The first of 1, 2 and 3 that applies to a field that is there is given, as specs/Laws.antt says, and a field's answers are told apart.
-- Assumes nothing.
use Prim.Native.Nat.{ℕ, ◌+◌, ◌<◌}
use mathlib.Core.Path.{◌≡◌, refl, sym, ap, ◌∙◌}
use mathlib.Core.Bool.{Bool, true, false, true≢false, false≢true}
use mathlib.Core.List.{List, [], ◌∷◌}
use native.Mathlib.Omega.{arith}
use lib.Dec.{eqb}
use lib.ListN.{drop_of_length-le}
use borrow.Author.Tests.{eqb-true, eqb-false}
use Rattle.calls.specs.declared.Call.{Call}
use Rattle.fields.specs.declared.Field.TheVariants.{CallThen, End, Refused}
use Rattle.calls.specs.Indicators.{Indicator}
use Rattle.calls.specs.Answers.{Said, refused_by, accepted, first_of, number_of}
use Rattle.calls.specs.Laws.{rank, place_from, applies, stand_from, First, ToldApart}
use Rattle.calls.proofs.First.{first-in-order}
use Rattle.calls.proofs.SaidLaws.{numbers_apart}
use Rattle.contents.specs.Content.{big_endian, unsigned}
use Rattle.fields.specs.Field.{size_at, left_at, Found, at_end, call_then, field_lines, call_at, field_in, field_said}
use Rattle.fields.specs.Laws.{FieldAnswered}

pub first-of-fields : (kind : List Indicator) (bytes : List ℕ) (at : ℕ) → First (field_lines kind bytes at) (call_at bytes at)
unfolding rank place_from stand_from field_lines
first-of-fields kind bytes at = first-in-order (call_at bytes at) (field_lines kind bytes at) refl

-- an answer tells the end from a field
abbrev is_end : Said Found → Bool
is_end (accepted at_end) = true
is_end (accepted (call_then call next)) = false
is_end (refused_by number) = false

no_end : (lines : List (ℕ × Bool)) (call : Call) (next : ℕ) → is_end (first_of lines (call_then call next)) ≡ false
unfolding first_of
no_end [] call next = refl
no_end ((line, true) ∷ rest) call next = refl
no_end ((line, false) ∷ rest) call next = no_end rest call next

module _ (kind : List Indicator) (bytes : List ℕ) (at : ℕ) where
  field-no-end : is_end (first_of (field_lines kind bytes at) (call_at bytes at)) ≡ false
  unfolding call_at
  field-no-end = no_end (field_lines kind bytes at) _ _

  -- no length can be read where no byte is left
  no_size : left_at bytes at ≡ 0 → size_at bytes at ≡ 0
  unfolding unsigned big_endian
  no_size none = rw (drop_of_length-le bytes {i = at + 1} (omega (arith, none))) refl

  end_not_truncated : left_at bytes at ≡ 0 → applies (field_lines kind bytes at) 1 ≡ false
  unfolding applies field_lines
  end_not_truncated none = rw (none, no_size none) refl

  answered : (none : Bool) → eqb (left_at bytes at) 0 ≡ none → FieldAnswered kind bytes at
  unfolding field_in call_at
  answered true none =
      let nothing : left_at bytes at ≡ 0 = eqb-true (left_at bytes at) 0 none in
      let ended : field_in kind bytes at ≡ accepted at_end = rw none refl in
      record {
        number = λ n. ((λ e. absurd (true≢false (ap is_end (sym ended ∙ e)))), (λ all. absurd (omega (arith, nothing, all.0))));
        ends = ((λ e. nothing), (λ e. ended));
        end_not_truncated = end_not_truncated;
        calls = ((λ e. absurd (true≢false (ap is_end (sym ended ∙ e)))), (λ all. absurd (omega (arith, nothing, all.0))));
      }
  answered false more =
      let some : 0 < left_at bytes at = omega (arith, eqb-false (left_at bytes at) 0 more) in
      let judged : field_in kind bytes at ≡ first_of (field_lines kind bytes at) (call_at bytes at) = rw more refl in
      let first = first-of-fields kind bytes at in
      record {
        number = λ n. ((λ e. (some, (first.refused n).0 (sym judged ∙ e))), (λ all. judged ∙ (first.refused n).1 all.1));
        ends = (
          (λ e. absurd (false≢true (sym field-no-end ∙ ap is_end (sym judged ∙ e)))),
          (λ none. absurd (omega (arith, some, none))),
        );
        end_not_truncated = end_not_truncated;
        calls = ((λ e. (some, first.answered.0 (sym judged ∙ e))), (λ all. judged ∙ first.answered.1 all.1));
      }

  pub field-answered : FieldAnswered kind bytes at
  field-answered = answered (eqb (left_at bytes at) 0) refl

pub fields-apart : ToldApart field_said
fields-apart (CallThen call next) (CallThen other after) same = cc
fields-apart (CallThen call next) End same = cc
fields-apart (CallThen call next) (Refused refusal) same = cc
fields-apart End (CallThen call next) same = cc
fields-apart End End same = refl
fields-apart End (Refused refusal) same = cc
fields-apart (Refused refusal) (CallThen call next) same = cc
fields-apart (Refused refusal) End same = cc
fields-apart (Refused refusal) (Refused other) same =
    let number : number_of refusal ≡ number_of other = cc in
    ap Refused (numbers_apart refusal other number)
