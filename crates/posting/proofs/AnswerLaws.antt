-- What a result answers that may be a refusal.
-- Assumes nothing.
use mathlib.Core.Path.{◌≡◌, refl, ap}
use Rattle.std.specs.Prelude.{Result, Ok, Err, IsErrAnd}
use Rattle.calls.specs.declared.Answer.{Answer}
use Rattle.calls.specs.declared.Answer.TheVariants.{Refused}
use Rattle.calls.specs.declared.Refusal.{Refusal}
use Rattle.calls.specs.Answers.{yes_said, said}
use Rattle.judging.specs.Results.{said_as}
use Rattle.posting.specs.Parts.{answer_as, yes_or}

-- a refusal that `?` hands on
pub refused-as : {A : Type 0} (meaning : A → Answer) (result : Result A Refusal) (refusal : Refusal) → IsErrAnd result (λ given. given ≡ refusal)
    → answer_as meaning result ≡ Refused refusal
refused-as meaning (Ok value) refusal same = absurd same
refused-as meaning (Err given) refusal same = ap Refused same

-- yes, or by the refusal's number
pub yes-or-said : (result : Result (Unit {0}) Refusal) → said (yes_or result) ≡ said_as (λ done. yes_said) result
yes-or-said (Ok done) = refl
yes-or-said (Err refusal) = refl
