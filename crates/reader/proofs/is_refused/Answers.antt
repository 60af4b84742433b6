-- `reader::is_refused` meets its contract.
-- Assumes nothing.
use mathlib.Core.Path.{◌≡◌, refl}
use mathlib.Core.Bool.{false}
use Rattle.calls.specs.declared.Answer.{Answer}
use Rattle.calls.specs.declared.Answer.TheVariants.{Yes, Counted, LeftOut, Refused}
use Rattle.calls.specs.declared.Refusal.{Refusal}
use Rattle.calls.specs.Answers.{said, on_answer, is_refused}
use Rattle.reader.proofs.is_refused.Goals as goal

-- refused
pub returns-in-Refused : goal.returns-in-Refused
unfolding is_refused on_answer
returns-in-Refused c = rw c.in-Refused.is refl

-- any other answer
other : (answer : Answer) → ((refusal : Refusal) → answer ≡ Refused refusal → ⊥) → false ≡ is_refused (said answer)
unfolding is_refused on_answer
other Yes none = refl
other (Counted year) none = refl
other (LeftOut reason) none = refl
other (Refused refusal) none = absurd (none refusal refl)

pub returns-in_default : goal.returns-in_default
returns-in_default c = other c.args.answer c.in_default.not-Refused
