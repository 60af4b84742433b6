-- The definitions of `money`, and of the crates that they rest on, opened by one name, for cases that are computed.
-- Assumes nothing.
use Rattle.money.specs.Money.{pot, contributions, returns, limits, capped, balanced, adjusted_by, adjustments, sumℤ}
use Rattle.indicators.proofs.Opened.{indicators-opened}

unfoldable pub money-opened : Unit {0}
unfolding pot contributions returns limits capped balanced adjusted_by adjustments sumℤ indicators-opened
money-opened = tt
