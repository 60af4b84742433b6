-- `indicators::interruptions::exponent_weights` meets its contract.
-- Assumes nothing.
use Prim.Native.Nat.{ℕ, ◌<◌}
use native.Mathlib.Omega.{arith}
use borrow.Author.Rules.{rules}
use lib.ListN.{get_or}
use Rattle.apportion.proofs.FromFn.{callable-each}
use Rattle.exponent.specs.Weight.{weight_of}
use Rattle.values.proofs.Tables.{made-each}
use Rattle.indicators.specs.Sequence.{exponent_weights}
use Rattle.indicators.proofs.interruptions.exponent_weights.Goals as goal

pub from_fn-requires : goal.from_fn-requires
from_fn-requires c =
    let within : (k : ℕ) → get_or c.args.thousandths k 0 < 1001 = λ k. omega (arith, c.requires k) in
    (omega arith, callable-each _ _ 16 _ (λ i y q call. search rules) (λ i lt. search (rules, within)))

pub returns : goal.returns
unfolding exponent_weights
returns c = made-each _ _ (λ (k : ℕ). weight_of (get_or c.args.thousandths k 0)) (λ i y q lt call.
    let value = c.all_weights-table.ensures (get_or c.args.thousandths i 0) (c.requires i) in
    search (rules, value)) _ c.from_fn.ensures.items
