-- `indicators::interruptions::level` meets its contract.
-- Assumes nothing.
use borrow.Author.Rules.{rules}
use mathlib.Core.Path.{◌≡◌, ◌∙◌}
use native.Mathlib.Omega.{arith}
use lib.ListN.{length}
use Rattle.apportion.proofs.FromFn.{callable-each}
use Rattle.apportion.proofs.Sums.{sum_bound}
use Rattle.values.specs.Bounds.{score_most}
use Rattle.values.proofs.Tables.{made-each}
use Rattle.indicators.specs.Points.{is_better}
use Rattle.indicators.proofs.Weighting.{weighed, told-better, levelled-by}
use Rattle.indicators.proofs.interruptions.level.Goals as goal

pub sum_of-sum-requires : goal.sum_of-sum-requires
sum_of-sum-requires c =
    let sums = c.args.sums in
    let long : length sums ≡ 16 = search rules in
    omega (arith, rw long at (sum_bound sums score_most (λ k lt. c.requires.sums_within k)))

pub from_fn-requires : goal.from_fn-requires
from_fn-requires c =
    (omega arith, callable-each _ _ 16 _ (λ i y q call. search rules) (λ i lt. search (rules, c.requires.sums_within, c.requires.own_most, c.number_of-g.ensures.1)))

pub returns : goal.returns
unfolding is_better
returns c =
    let better = c.better_ones-better in
    let g = c.number_of-g in
    let together = c.weight_of-together in
    let told = told-better _ _ _ better.ensures in
    made-each _ _ (weighed c.args.mask c.args.own better.result g.result together.result) (λ i y q lt call. rw (told i lt, ← c.sum_of-sum.ensures) (search rules)) _ c.from_fn.ensures.items
    ∙ levelled-by _ c.args.sums _ _ _ _ better.ensures g.ensures.0 together.ensures
