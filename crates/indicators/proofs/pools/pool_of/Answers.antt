-- `indicators::pools::pool_of` meets its contract.
-- Assumes nothing.
use mathlib.Core.Path.{refl, ◌∙◌}
use native.Mathlib.Omega.{arith}
use native.Mathlib.Nat.{mul-le-mul}
use Rattle.values.specs.Indicator.{pool}
use Rattle.indicators.proofs.pools.pool_of.Goals as goal

pub overflow_mul-points_a_year-2 : goal.overflow_mul-points_a_year-2
overflow_mul-points_a_year-2 c =
    let product = mul-le-mul c.points_a_year.ensures.1 c.ones_of.ensures.1 in
    record { fits = omega (arith, product) }

pub returns : goal.returns
unfolding pool
returns c =
    let product = mul-le-mul c.points_a_year.ensures.1 c.ones_of.ensures.1 in (
      c.divide.ensures.0
          ∙ rw (
            c.points_a_year.ensures.0,
            c.ones_of.ensures.0,
            c.ones_of-2.ensures.0,
            c.reliable_mask.ensures,
          )
          refl,
      omega (arith, product, c.divide.ensures.1),
    )
