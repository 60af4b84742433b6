-- `rewriting::rewritten` meets its contract.
-- Assumes nothing.
use native.Mathlib.Omega.{arith}
use Rattle.writing.proofs.WrittenLaws.{fullest-exact}
use borrow.Author.Rules.{rules}
use Rattle.rewriting.proofs.rewritten.Goals as goal

pub rewritten_as-requires : goal.rewritten_as-requires
rewritten_as-requires c = (search rules, omega (arith, fullest-exact.most))

pub returns : goal.returns
returns c = c.rewritten_as.ensures
