-- `apportion::quotients` meets its contract.
-- Assumes nothing.
use borrow.Author.Rules.{rules}
use Rattle.exact.specs.declared.Division.{Division}
use Rattle.apportion.proofs.Mapped.{mapped}
use Rattle.apportion.proofs.quotients.Goals as goal

pub returns : goal.returns
returns c = mapped _ _ (λ (d : Division). d.quotient) (λ x y q call. search rules) c.args.places 16 _ (record { quotient = 0; remainder = 0 }) c.map.ensures.items (search rules)
