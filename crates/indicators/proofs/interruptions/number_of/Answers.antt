-- `indicators::interruptions::number_of` meets its contract.
-- Assumes nothing.
use borrow.Author.Rules.{rules}
use mathlib.Core.Path.{◌≡◌, refl, ◌∙◌}
use mathlib.Core.Bool.{Bool, false}
use native.Mathlib.Omega.{arith}
use Prim.Native.Nat.{ℕ}
use lib.ListN.{length, get_or}
use Rattle.std.specs.List.{count_by}
use Rattle.std.proofs.iter.runs.Made.{chains}
use Rattle.values.specs.Operators.{count}
use Rattle.values.proofs.CountLaws.{count-le}
use Rattle.indicators.proofs.Weighting.{true-counted}
use Rattle.indicators.proofs.interruptions.number_of.Goals as goal

pub returns : goal.returns
returns c =
    let better = c.args.better in
    let long : length better ≡ 16 = search rules in
    let made : c.count.result ≡ count_by (λ (b : Bool). b) better = search (rules, chains) in
    let counted : c.count.result ≡ count 16 (λ (k : ℕ). get_or better k false) = made ∙ rw (true-counted better, long) refl in
    (counted, omega (arith, counted, count-le 16 (λ (k : ℕ). get_or better k false)))
