-- The definitions of `fields`, and of the crates that they rest on, opened by one name, for cases that are computed.
-- Assumes nothing.
use Rattle.fields.specs.Field.{has_tag, field_lines, call_at, field_in}
use Rattle.contents.proofs.Opened.{contents-opened}

unfoldable pub fields-opened : Unit {0}
unfolding has_tag field_lines call_at field_in contents-opened
fields-opened = tt
