-- What the check says that calls share.
-- Assumes nothing.
use Rattle.std.specs.Prelude.{Result}
use Rattle.calls.specs.declared.Refusal.{Refusal}
use Rattle.calls.specs.Answers.{Said}
use Rattle.judging.specs.Results.{said_as}

-- whether a call passes 4, 5 and 7, and an interruption 14 and 15
abbrev pub admission_said : Result (Unit {0}) Refusal → Said (Unit {0})
admission_said = said_as (λ passed. passed)
