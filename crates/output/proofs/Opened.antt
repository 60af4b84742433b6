-- The definitions of `output`, and of the crates that they rest on, opened by one name, for cases that are computed.
-- Assumes nothing.
use Rattle.output.specs.Output.{refused_by_number, refused_line, refused_field, settlement_text_as, reading_text, printed_as, output_as}
use Rattle.report.proofs.Opened.{report-opened}
use Rattle.filing.proofs.Opened.{filing-opened}

unfoldable pub output-opened : Unit {0}
unfolding refused_by_number refused_line refused_field settlement_text_as reading_text printed_as output_as report-opened filing-opened
output-opened = tt
