-- What is said of a refusal that `?` hands on.
-- Assumes nothing.
use mathlib.Core.Path.{◌≡◌, ap}
use Rattle.std.specs.Prelude.{Result, Ok, Err, IsErrAnd}
use Rattle.calls.specs.declared.Refusal.{Refusal}
use Rattle.calls.specs.Answers.{refused_by, number_of}
use Rattle.judging.specs.Results.{said_as}

-- a result that is this refusal says its number
pub handed-on : {A B : Type 0} (meaning : A → B) (result : Result A Refusal) (refusal : Refusal) → IsErrAnd result (λ given. given ≡ refusal)
    → said_as meaning result ≡ refused_by (number_of refusal)
handed-on meaning (Ok value) refusal same = absurd same
handed-on meaning (Err given) refusal same = ap (λ (one : Refusal). refused_by (number_of one)) same
