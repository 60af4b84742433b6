-- `values::measures::settings_of` meets its contract.
-- Assumes nothing.
use Prim.Native.Nat.{ℕ}
use borrow.Author.Rules.{rules}
use Rattle.book.specs.Book.{setting_of}
use Rattle.values.proofs.Tables.{made-each}
use Rattle.values.proofs.measures.settings_of.Goals as goal

pub returns : goal.returns
unfolding setting_of
returns c = made-each _ _ (λ (k : ℕ). setting_of c.args.b.now k c.args.which) (λ i y q lt call. search rules) _ c.from_fn.ensures.items
