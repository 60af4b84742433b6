-- The definitions of `columns`, and of the crates that they rest on, opened by one name, for cases that are computed.
-- Assumes nothing.
use Rattle.columns.specs.Columns.{line, points_of_operator}
use Rattle.text.proofs.Opened.{text-opened}
use Rattle.settlement.proofs.Opened.{settlement-opened}

unfoldable pub columns-opened : Unit {0}
unfolding line points_of_operator text-opened settlement-opened
columns-opened = tt
