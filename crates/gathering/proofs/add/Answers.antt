-- `gathering::add` meets its contract.
-- Assumes nothing.
use Prim.Native.Nat.{ℕ, ◌+◌, ◌≤◌}
use native.Mathlib.Omega.{arith}
use borrow.Author.Rules.{rules}
use lib.ListN.{get_or}
use Rattle.apportion.proofs.FromFn.{callable-each}
use Rattle.values.specs.Bounds.{pool_most, total_most}
use Rattle.values.proofs.Tables.{made-each}
use Rattle.gathering.proofs.add.Goals as goal

pub from_fn-requires : goal.from_fn-requires
from_fn-requires c =
    let fits : (k : ℕ) → get_or c.args.list k 0 + get_or c.args.other k 0 ≤ total_most + pool_most = λ k. omega (arith, c.requires.0 k, c.requires.1 k) in
    (omega arith, callable-each _ _ 16 _ (λ i y q call. search rules) (λ i lt. search (rules, fits)))

pub returns : goal.returns
returns c = made-each _ _ (λ (k : ℕ). get_or c.args.list k 0 + get_or c.args.other k 0) (λ i y q lt call. search rules) _ c.from_fn.ensures.items
