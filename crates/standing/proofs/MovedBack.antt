-- The way back from what the move of a figure says.
-- Assumes nothing.
use Prim.Native.Nat.{ℕ}
use mathlib.Core.Path.{◌≡◌, refl}
use mathlib.Core.Bool.{cond}
use lib.Dec.{eqb}
use Rattle.std.specs.Prelude.{Result, Ok, Err}
use Rattle.calls.specs.declared.Refusal.{Refusal}
use Rattle.calls.specs.declared.Refusal.TheVariants.{Truncated, UnknownTag, WrongLength, UnknownOperator, OutOfRange, AlreadyJoined, NotJoined, AboveLimit, BelowZero, NoneJoined, NetworkMissing, AllMarked, BufferTooShort, StartsAfterEnd, OutsidePeriod}
use Rattle.calls.specs.Answers.{Said, refused_by, accepted}
use Rattle.judging.specs.Figures.{moved_said}

-- the refusal of a number
abbrev pub refusal_of : ℕ → Refusal
refusal_of number =
    cond (eqb number 1) Truncated (cond (eqb number 2) UnknownTag (cond (eqb number 3) WrongLength (cond (eqb number 4) UnknownOperator (cond (eqb number 5) OutOfRange (cond (eqb number 6) AlreadyJoined (cond (eqb number 7) NotJoined (cond (eqb number 8) AboveLimit (cond (eqb number 9) BelowZero (cond (eqb number 10) NoneJoined (cond (eqb number 11) NetworkMissing (cond (eqb number 12) AllMarked (cond (eqb number 13) BufferTooShort (cond (eqb number 14) StartsAfterEnd OutsidePeriod)))))))))))))

-- the move of a figure that says it
abbrev pub moved_saying : Said ℕ → Result ℕ Refusal
moved_saying (refused_by number) = Err (refusal_of number)
moved_saying (accepted new) = Ok new

pub moved_back : (moved : Result ℕ Refusal) → moved_saying (moved_said moved) ≡ moved
moved_back (Ok new) = refl
moved_back (Err Truncated) = refl
moved_back (Err UnknownTag) = refl
moved_back (Err WrongLength) = refl
moved_back (Err UnknownOperator) = refl
moved_back (Err OutOfRange) = refl
moved_back (Err AlreadyJoined) = refl
moved_back (Err NotJoined) = refl
moved_back (Err AboveLimit) = refl
moved_back (Err BelowZero) = refl
moved_back (Err NoneJoined) = refl
moved_back (Err NetworkMissing) = refl
moved_back (Err AllMarked) = refl
moved_back (Err BufferTooShort) = refl
moved_back (Err StartsAfterEnd) = refl
moved_back (Err OutsidePeriod) = refl
