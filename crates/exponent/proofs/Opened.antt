-- The definitions of `exponent`, and of the crates that they rest on, opened by one name, for cases that are computed.
-- Assumes nothing.
use Rattle.exponent.specs.Weight.{weight_of}

unfoldable pub exponent-opened : Unit {0}
unfolding weight_of
exponent-opened = tt
