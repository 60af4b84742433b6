-- Answers in document 01's terms: what is answered, by number where it is refused, and what each case of the code's answer says.
-- Assumes nothing.
use Rattle.std.specs.Prelude.{ℕ, Bool, true, false, cond, List, [], ◌∷◌}
use Rattle.calls.specs.declared.Refusal.{Refusal}
use Rattle.calls.specs.declared.Refusal.TheVariants.{Truncated, UnknownTag, WrongLength, UnknownOperator, OutOfRange, AlreadyJoined, NotJoined, AboveLimit, BelowZero, NoneJoined, NetworkMissing, AllMarked, BufferTooShort, StartsAfterEnd, OutsidePeriod}
use Rattle.calls.specs.declared.Reason.{Reason}
use Rattle.calls.specs.declared.Reason.TheVariants.{Short, Planned, Coupled, Exceptional}
use Rattle.calls.specs.declared.Answer.{Answer}
use Rattle.calls.specs.declared.Answer.TheVariants.{Yes, Counted, LeftOut, Refused}

-- what is answered: refused by a number of the table "Answers other than yes", or a value
pub data Said (A : Type 0) : Type 0 where
  refused_by : ℕ → Said A
  accepted : A → Said A

-- the one place that takes an answer apart: what follows from a refusal's number, and what from a value
unfoldable pub on_answer : {A B : Type 0} → (ℕ → B) → (A → B) → Said A → B
on_answer refused otherwise (refused_by number) = refused number
on_answer refused otherwise (accepted value) = otherwise value

unfoldable pub is_refused : {A : Type 0} → Said A → Bool
is_refused answer = on_answer (λ number. true) (λ value. false) answer

-- lines of the table, each a number and whether it applies: the first that applies is given, where none does the value
unfoldable pub first_of : {A : Type 0} → List (ℕ × Bool) → A → Said A
first_of [] value = accepted value
first_of ((number, applies) ∷ rest) value = cond applies (refused_by number) (first_of rest value)

-- what an accepted call answers: "yes, or for an interruption counted or left out"
pub data Acceptance : Type 0 where
  yes_said : Acceptance
  counted_in : ℕ → Acceptance
  left_out_as_short : Acceptance
  left_out_under : ℕ → Acceptance

-- "Answers other than yes"; "Start after end is 14, a time outside the period 15" (02, point 8)
abbrev pub number_of : Refusal → ℕ
number_of Truncated = 1
number_of UnknownTag = 2
number_of WrongLength = 3
number_of UnknownOperator = 4
number_of OutOfRange = 5
number_of AlreadyJoined = 6
number_of NotJoined = 7
number_of AboveLimit = 8
number_of BelowZero = 9
number_of NoneJoined = 10
number_of NetworkMissing = 11
number_of AllMarked = 12
number_of BufferTooShort = 13
number_of StartsAfterEnd = 14
number_of OutsidePeriod = 15

-- "left out as short", "left out under that cause"
abbrev pub left_out_as : Reason → Acceptance
left_out_as Short = left_out_as_short
left_out_as Planned = left_out_under 1
left_out_as Coupled = left_out_under 2
left_out_as Exceptional = left_out_under 3

-- what an answer says
abbrev pub said : Answer → Said Acceptance
said Yes = accepted yes_said
said (Counted year) = accepted (counted_in year)
said (LeftOut reason) = accepted (left_out_as reason)
said (Refused refusal) = refused_by (number_of refusal)
