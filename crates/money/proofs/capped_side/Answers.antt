-- `money::capped_side` meets its contract.
-- Assumes nothing.
use borrow.Author.Rules.{rules}
use Rattle.money.specs.Money.{capped}
use Rattle.values.proofs.Tables.{made-each}
use Rattle.money.proofs.capped_side.Goals as goal

pub returns : goal.returns
unfolding capped
returns c = made-each _ _ _ (λ i y q lt call. search rules) _ c.from_fn.ensures.items
