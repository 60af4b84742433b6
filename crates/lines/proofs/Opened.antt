-- The definitions of `lines`, and of the crates that they rest on, opened by one name, for cases that are computed.
-- Assumes nothing.
use Rattle.lines.specs.Lines.{header, operator_line, operator_lines, last_line, printed}
use Rattle.columns.proofs.Opened.{columns-opened}

unfoldable pub lines-opened : Unit {0}
unfolding header operator_line operator_lines last_line printed columns-opened
lines-opened = tt
