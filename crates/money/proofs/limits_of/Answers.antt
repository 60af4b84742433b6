-- `money::limits_of` meets its contract.
-- Assumes nothing.
use Prim.Native.Nat.{ℕ, ◌*◌, ◌/◌}
use mathlib.Core.Path.{◌≡◌, ap}
use lib.ListN.{get_or}
use native.Mathlib.Omega.{arith}
use borrow.Author.Rules.{rules}
use Rattle.money.proofs.InRange.{limit-le}
use Rattle.values.specs.Bounds.{limit_most}
use Rattle.values.specs.Operators.{each}
use Rattle.values.proofs.Tables.{made-each, each-le}
use Rattle.money.proofs.limits_of.Goals as goal

pub returns : goal.returns
returns c =
    let products = λ (k : ℕ). ap (λ (cap : ℕ). cap * get_or c.args.incomes k 0) c.from-cap.ensures in
    let made : c.from_fn.result ≡ each (λ (k : ℕ). c.args.rate * get_or c.args.incomes k 0 / 1000000) =
    made-each _ _ _ (λ i y q lt call. (omega (arith, products i), search rules)) _ c.from_fn.ensures.items in
    (made, λ k. rw made (each-le _ limit_most (λ j lt. limit-le c.args.rate c.args.incomes c.requires.0 c.requires.1 j) k))
