-- `indicators::weights::linear_weights` meets its contract.
-- Assumes nothing.
use borrow.Author.Rules.{rules}
use mathlib.Core.Path.{sym, ◌∙◌}
use mathlib.Core.Bool.{cond}
use native.Mathlib.Omega.{arith}
use Prim.Native.Nat.{ℕ, ◌≤◌}
use lib.ListN.{get_or}
use Rattle.apportion.proofs.FromFn.{callable-each}
use Rattle.calls.specs.Masks.{has}
use Rattle.values.specs.Bounds.{score_most}
use Rattle.values.proofs.Tables.{made-each}
use Rattle.indicators.specs.Points.{normalised}
use Rattle.indicators.proofs.Largest.{largest-ge, largest-le}
use Rattle.indicators.proofs.WeightLaws.{linear_weight}
use Rattle.indicators.proofs.Weighting.{linear-same}
use Rattle.indicators.proofs.weights.linear_weights.Goals as goal

pub from_fn-requires : goal.from_fn-requires
from_fn-requires c =
    let scores = c.args.scores in
    let score_below : (k : ℕ) → get_or scores k 0 ≤ c.largest_of-top.result = λ k. omega (arith, largest-ge scores k, c.largest_of-top.ensures) in
    let top_below : c.largest_of-top.result ≤ score_most = omega (arith, largest-le scores score_most c.requires, c.largest_of-top.ensures) in
    (omega arith, callable-each _ _ 16 _ (λ i y q call. search rules) (λ i lt. search (rules, score_below, top_below)))

pub returns : goal.returns
unfolding normalised
returns c =
    λ measure linear.
    made-each _ _ (λ (operator : ℕ). cond (has c.args.mask operator) (linear_weight c.args.scores operator) 0) (λ i y q lt call. search rules) _ c.from_fn.ensures.items
    ∙ sym (linear-same c.args.mask c.args.scores measure linear)
