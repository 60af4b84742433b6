-- `indicators::interruptions::thousandths_of` meets its contract.
-- Assumes nothing.
use Prim.Native.Nat.{ℕ, ◌*◌, ◌≤◌}
use borrow.Author.Rules.{rules}
use lib.ListN.{get_or}
use Rattle.apportion.proofs.FromFn.{callable-each}
use Rattle.exact.specs.Division.{over}
use Rattle.values.proofs.Tables.{made-each}
use Rattle.indicators.specs.Points.{largest}
use Rattle.indicators.specs.Sequence.{thousandths}
use Rattle.values.specs.Bounds.{score_most}
use native.Mathlib.Omega.{arith}
use Rattle.indicators.proofs.Largest.{largest-ge, largest-le}
use Rattle.indicators.proofs.interruptions.thousandths_of.Goals as goal

pub from_fn-requires : goal.from_fn-requires
from_fn-requires c =
    let sums = c.args.sums in
    let below : (k : ℕ) → get_or sums k 0 ≤ c.largest_of-top.result = λ k. omega (arith, largest-ge sums k, c.largest_of-top.ensures) in
    let top : c.largest_of-top.result ≤ score_most = omega (arith, largest-le sums score_most c.requires, c.largest_of-top.ensures) in
    (omega arith, callable-each _ _ 16 _ (λ i y q call. search rules) (λ i lt. search (rules, below, top)))

pub returns : goal.returns
unfolding thousandths
returns c = made-each _ _ (λ (k : ℕ). over (1000 * get_or c.args.sums k 0) (largest c.args.sums)) (λ i y q lt call. search rules) _ c.from_fn.ensures.items
