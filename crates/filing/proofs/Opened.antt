-- The definitions of `filing`, and of the crates that they rest on, opened by one name, for cases that are computed.
-- Assumes nothing.
use Rattle.filing.specs.Reader.{followed, fields_from, fields_in, run, read_from_as, read_as}
use Rattle.ledger.proofs.Opened.{ledger-opened}
use Rattle.fields.proofs.Opened.{fields-opened}

unfoldable pub filing-opened : Unit {0}
unfolding followed fields_from fields_in run read_from_as read_as ledger-opened fields-opened
filing-opened = tt
