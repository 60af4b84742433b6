-- `values::values_in` meets its contract.
-- Assumes nothing.
use Prim.Native.Nat.{ℕ}
use borrow.Author.Rules.{rules}
use Rattle.values.specs.Indicator.{yearly_value, numbered}
use Rattle.values.proofs.Tables.{made-each}
use Rattle.values.proofs.values_in.Goals as goal

pub returns : goal.returns
returns c =
    made-each _ _ (λ (k : ℕ). yearly_value c.args.m.book.now (numbered c.args.number).measure k c.args.year) (λ i y q lt call. search rules) _
    c.from_fn.ensures.items
