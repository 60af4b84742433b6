-- `indicators::pools::points_of` meets its contract.
-- Assumes nothing.
use Prim.Native.Nat.{◌*◌, ◌≤◌}
use mathlib.Core.Path.{◌∙◌}
use native.Mathlib.Omega.{arith}
use Rattle.apportion.specs.Sum.{sum}
use Rattle.apportion.specs.Share.{share}
use Rattle.calls.specs.Limits.{operators}
use Rattle.indicators.specs.Points.{points}
use Rattle.indicators.proofs.WeightLaws.{levelled_most, weights-sum-most}
use Rattle.indicators.proofs.pools.points_of.Goals as goal

pub share-requires : goal.share-requires
share-requires c =
    let most : sum c.weights_of.result ≤ operators * levelled_most = rw c.weights_of.ensures (weights-sum-most _ _ _) in
    omega (arith, c.pool_of.ensures.1, most)

pub returns : goal.returns
unfolding points
returns c =
    c.share.ensures ∙ (λ i. share (c.pool_of.ensures.0 i) (c.weights_of.ensures i) (c.settings_of.ensures i))
