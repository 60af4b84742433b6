-- The definitions of `apportion`, and of the crates that they rest on, opened by one name, for cases that are computed.
-- Assumes nothing.
use Rattle.apportion.specs.Share.{floors, remainders, larger_first, precedes, earlier, foremost, award, share}
use Rattle.apportion.specs.Sum.{sum}

unfoldable pub apportion-opened : Unit {0}
unfolding floors remainders larger_first precedes earlier foremost award share sum
apportion-opened = tt
