-- `indicators::interruptions::better_ones` meets its contract.
-- Assumes nothing.
use borrow.Author.Rules.{rules}
use mathlib.Core.Path.{◌≡◌}
use native.Mathlib.Omega.{arith}
use lib.ListN.{length}
use Rattle.apportion.proofs.FromFn.{callable-each}
use Rattle.apportion.proofs.Sums.{sum_bound}
use Rattle.values.specs.Bounds.{score_most}
use Rattle.values.proofs.Tables.{made-table}
use Rattle.indicators.specs.Points.{is_better}
use Rattle.indicators.proofs.interruptions.better_ones.Goals as goal

pub sum_of-sum-requires : goal.sum_of-sum-requires
sum_of-sum-requires c =
    let sums = c.args.sums in
    let long : length sums ≡ 16 = search rules in
    omega (arith, rw long at (sum_bound sums score_most (λ k lt. c.requires k)))

pub from_fn-requires : goal.from_fn-requires
from_fn-requires c = (omega arith, callable-each _ _ 16 _ (λ i y q call. search rules) (λ i lt. search (rules, c.requires)))

pub returns : goal.returns
unfolding is_better
returns c = made-table _ _ (is_better c.args.mask c.args.sums) (λ i y q lt call. rw (← c.sum_of-sum.ensures) (search rules)) _ c.from_fn.ensures.items
