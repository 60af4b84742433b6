-- `values::sums_of_years` meets its contract.
-- Assumes nothing.
use Prim.Native.Nat.{ℕ, ◌+◌}
use mathlib.Core.Bool.{cond}
use mathlib.Core.List.{[]}
use borrow.Author.Rules.{rules}
use lib.ListN.{get_or}
use Rattle.calls.specs.Masks.{has}
use Rattle.values.specs.Sequence.{sums_of_years}
use Rattle.values.proofs.Tables.{made-each}
use Rattle.values.proofs.sums_of_years.Goals as goal

pub returns : goal.returns
unfolding sums_of_years
returns c =
    let value : ℕ → ℕ → ℕ = λ year operator. get_or (get_or c.args.values year []) operator 0 in
    made-each _ _ (λ (k : ℕ). cond (has c.args.mask k) (value 0 k + value 1 k + value 2 k) 0) (λ i y q lt call. search rules) _ c.from_fn.ensures.items
