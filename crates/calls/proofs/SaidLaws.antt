-- Answers are told apart by what they say (specs/Laws.antt).
-- Assumes nothing.
use Prim.Native.Nat.{ℕ, ◌-◌}
use mathlib.Core.Bool.{false, true≢false}
use mathlib.Core.List.{[], ◌∷◌}
use lib.ListN.{get_or}
use mathlib.Core.Path.{◌≡◌, refl, sym, ap, ◌∙◌}
use Rattle.calls.specs.declared.Refusal.{Refusal}
use Rattle.calls.specs.declared.Refusal.TheVariants.{Truncated, UnknownTag, WrongLength, UnknownOperator, OutOfRange, AlreadyJoined, NotJoined, AboveLimit, BelowZero, NoneJoined, NetworkMissing, AllMarked, BufferTooShort, StartsAfterEnd, OutsidePeriod}
use Rattle.calls.specs.declared.Reason.TheVariants.{Short, Planned, Coupled, Exceptional}
use Rattle.calls.specs.declared.Answer.{Answer}
use Rattle.calls.specs.declared.Answer.TheVariants.{Yes, Counted, LeftOut, Refused}
use Rattle.calls.specs.Answers.{Said, refused_by, accepted, on_answer, is_refused, Acceptance, yes_said, counted_in, left_out_as_short, left_out_under, number_of, said}
use Rattle.calls.specs.Laws.{ToldApart}

-- the refusal of a number, the first being 1
abbrev refusal_of : ℕ → Refusal
refusal_of number =
    get_or
    (Truncated ∷ UnknownTag ∷ WrongLength ∷ UnknownOperator ∷ OutOfRange ∷ AlreadyJoined ∷ NotJoined ∷ AboveLimit ∷ BelowZero ∷ NoneJoined ∷ NetworkMissing ∷ AllMarked ∷ BufferTooShort ∷ StartsAfterEnd ∷ OutsidePeriod ∷ [])
    (number - 1) Truncated

refusal-back : (refusal : Refusal) → refusal_of (number_of refusal) ≡ refusal
refusal-back Truncated = refl
refusal-back UnknownTag = refl
refusal-back WrongLength = refl
refusal-back UnknownOperator = refl
refusal-back OutOfRange = refl
refusal-back AlreadyJoined = refl
refusal-back NotJoined = refl
refusal-back AboveLimit = refl
refusal-back BelowZero = refl
refusal-back NoneJoined = refl
refusal-back NetworkMissing = refl
refusal-back AllMarked = refl
refusal-back BufferTooShort = refl
refusal-back StartsAfterEnd = refl
refusal-back OutsidePeriod = refl

pub numbers_apart : ToldApart number_of
numbers_apart refusal other same = sym (refusal-back refusal) ∙ ap refusal_of same ∙ refusal-back other

-- the answer that says it
abbrev pub answer_saying : Said Acceptance → Answer
answer_saying (refused_by number) = Refused (refusal_of number)
answer_saying (accepted yes_said) = Yes
answer_saying (accepted (counted_in year)) = Counted year
answer_saying (accepted left_out_as_short) = LeftOut Short
answer_saying (accepted (left_out_under cause)) = LeftOut (get_or (Short ∷ Planned ∷ Coupled ∷ Exceptional ∷ []) cause Short)

answer_back : (answer : Answer) → answer_saying (said answer) ≡ answer
answer_back Yes = refl
answer_back (Counted year) = refl
answer_back (LeftOut Short) = refl
answer_back (LeftOut Planned) = refl
answer_back (LeftOut Coupled) = refl
answer_back (LeftOut Exceptional) = refl
answer_back (Refused refusal) = ap Refused (refusal-back refusal)

pub answers-apart : ToldApart said
answers-apart answer other same = sym (answer_back answer) ∙ ap answer_saying same ∙ answer_back other

-- an answer that is told to be no refusal
pub told-accepted : (answer : Answer) → ((refusal : Refusal) → answer ≡ Refused refusal → ⊥) → is_refused (said answer) ≡ false
unfolding is_refused on_answer
told-accepted Yes other = refl
told-accepted (Counted year) other = refl
told-accepted (LeftOut reason) other = refl
told-accepted (Refused refusal) other = absurd (other refusal refl)

-- what follows from an answer that is no refusal
pub otherwise-given : {A B : Type 0} (refused : ℕ → B) (otherwise : B) (answer : Said A) → is_refused answer ≡ false → on_answer refused (λ (value : A). otherwise) answer ≡ otherwise
unfolding is_refused on_answer
otherwise-given refused otherwise (refused_by number) fine = absurd (true≢false fine)
otherwise-given refused otherwise (accepted value) fine = refl
