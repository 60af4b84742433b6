-- The definitions of `indicators`, and of the crates that they rest on, opened by one name, for cases that are computed.
-- Assumes nothing.
use Rattle.indicators.specs.Points.{largest, normalised, exponent_weight, is_better, levelled, is_levelled, weight_of_one, weights, points, all_points, pool_numbered, points_numbered, pools_of_all, rows, points_of_all}
use Rattle.indicators.specs.Sequence.{thousandths, exponent_weights, levelled_weights, in_sequence}
use Rattle.values.proofs.Opened.{values-opened}
use Rattle.exponent.proofs.Opened.{exponent-opened}
use Rattle.apportion.proofs.Opened.{apportion-opened}

unfoldable pub indicators-opened : Unit {0}
unfolding largest normalised exponent_weight is_better levelled is_levelled weight_of_one weights points all_points pool_numbered points_numbered pools_of_all rows points_of_all thousandths exponent_weights levelled_weights in_sequence values-opened exponent-opened apportion-opened
indicators-opened = tt
