-- The definitions of `report`, and of the crates that they rest on, opened by one name, for cases that are computed.
-- Assumes nothing.
use Rattle.report.specs.Report.{text_as, reporting_lines, reporting_answer, reporting_buffer}
use Rattle.lines.proofs.Opened.{lines-opened}

unfoldable pub report-opened : Unit {0}
unfolding text_as reporting_lines reporting_answer reporting_buffer lines-opened
report-opened = tt
