-- `indicators::interruptions::weight_of` meets its contract.
-- Assumes nothing.
use borrow.Author.Rules.{rules}
use mathlib.Core.Path.{◌≡◌, ◌∙◌, ap}
use mathlib.Core.Bool.{Bool, false, cond}
use mathlib.Core.List.{List}
use Prim.Native.Nat.{ℕ, zero-le}
use native.Mathlib.Omega.{arith}
use lib.ListN.{get_or}
use Rattle.apportion.specs.Sum.{sum}
use Rattle.exponent.specs.Weight.{first_weight}
use Rattle.values.specs.Operators.{each}
use Rattle.values.proofs.CountLaws.{cond-le}
use Rattle.values.proofs.Tables.{made-each, sum-each-le}
use Rattle.indicators.proofs.interruptions.weight_of.Goals as goal
use Rattle.indicators.proofs.interruptions.weight_of.Goals.{After-from_fn}

-- an operator's weight if it is better
abbrev counted : List Bool → List ℕ → ℕ → ℕ
counted better own operator = cond (get_or better operator false) (get_or own operator 0) 0

made : (m : After-from_fn) → m.from_fn.result ≡ each (counted m.args.better m.args.own)
made m = made-each _ _ (counted m.args.better m.args.own) (λ i y q lt call. search rules) _ m.from_fn.ensures.items

pub sum_of-requires : goal.sum_of-requires
sum_of-requires c =
    rw (made (goal.at.sum_of-requires c).After-from_fn)
    (omega (arith, sum-each-le (counted c.args.better c.args.own) first_weight (λ k lt. cond-le (get_or c.args.better k false) (c.requires k) zero-le)))

pub returns : goal.returns
returns c = c.sum_of.ensures ∙ ap sum (made (goal.at.returns c).After-from_fn)
