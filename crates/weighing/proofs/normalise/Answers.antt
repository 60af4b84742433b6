-- `weighing::normalise` meets its contract.
-- Assumes nothing.
use mathlib.Core.Path.{refl}
use Prim.Native.Nat.{◌*◌, ◌≤◌}
use native.Mathlib.Omega.{arith}
use borrow.Author.Tests.{eq-eqb, ne_eqb}
use Rattle.exact.specs.Division.{over}
use native.Mathlib.Nat.{mul-le-mul_left, div-le_of_le-mul}
use Rattle.weighing.proofs.normalise.Goals as goal

pub returns-then-top-eq0 : goal.returns-then-top-eq0
unfolding over
returns-then-top-eq0 c = (rw (eq-eqb _ _ c.if-top-eq0.true) refl, omega arith)

pub returns : goal.returns
unfolding over
returns c =
    let most : c.args.parts * c.args.score ≤ c.args.top * c.args.parts = omega (arith, mul-le-mul_left c.args.parts c.requires.score_within) in (
      rw (ne_eqb _ _ c.if-top-eq0.false) c.divide_product-d.ensures.0,
      rw c.divide_product-d.ensures.0 (div-le_of_le-mul c.args.top most),
    )
