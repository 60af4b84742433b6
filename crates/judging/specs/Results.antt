-- What a result says that may be a refusal.
-- Assumes nothing.
use Rattle.std.specs.Prelude.{Result, Ok, Err}
use Rattle.calls.specs.declared.Refusal.{Refusal}
use Rattle.calls.specs.Answers.{Said, refused_by, accepted, number_of}

-- refused by its number, or what its value stands for
abbrev pub said_as : {A B : Type 0} → (A → B) → Result A Refusal → Said B
said_as meaning (Ok value) = accepted (meaning value)
said_as meaning (Err refusal) = refused_by (number_of refusal)
