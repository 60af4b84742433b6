-- `money::return_weights` meets its contract.
-- Assumes nothing.
use Prim.Native.Nat.{ℕ, ◌*◌}
use mathlib.Core.Path.{◌≡◌}
use lib.ListN.{get_or}
use borrow.Author.Rules.{rules}
use Rattle.values.specs.Operators.{each}
use Rattle.values.proofs.Tables.{made-each}
use Rattle.money.proofs.Amounts.{weights-sum}
use Rattle.money.proofs.return_weights.Goals as goal

pub returns : goal.returns
returns c =
    let made : c.from_fn.result ≡ each (λ (k : ℕ). get_or c.args.access k 0 * get_or c.args.totals k 0) =
    made-each _ _ _ (λ i y q lt call. search rules) _ c.from_fn.ensures.items in
    (made, rw made (weights-sum c.args.access c.args.totals c.requires.0 c.requires.1))
