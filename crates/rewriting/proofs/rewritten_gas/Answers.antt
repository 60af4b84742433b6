-- `rewriting::rewritten_gas` meets its contract.
-- Assumes nothing.
use native.Mathlib.Omega.{arith}
use Rattle.writing.proofs.WrittenLaws.{fullest-gas-exact}
use borrow.Author.Rules.{rules}
use Rattle.rewriting.proofs.rewritten_gas.Goals as goal

pub rewritten_as-requires : goal.rewritten_as-requires
rewritten_as-requires c = (search rules, omega (arith, fullest-gas-exact.most))

pub returns : goal.returns
returns c = c.rewritten_as.ensures
