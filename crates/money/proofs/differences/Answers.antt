-- `money::differences` meets its contract.
-- Assumes nothing.
use mathlib.Core.Path.{◌∙◌}
use borrow.Author.Rules.{rules}
use Rattle.money.proofs.Signs.{subtracted}
use Rattle.values.proofs.Tables.{made-table}
use Rattle.money.proofs.differences.Goals as goal

pub returns : goal.returns
returns c = made-table _ _ _ (λ i y q lt call. (search rules ∙ subtracted _ _ (c.requires.0 i lt) (c.requires.1 i lt), search rules)) _ c.from_fn.ensures.items
