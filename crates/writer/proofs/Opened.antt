-- The definitions of `writer`, and of the crates that they rest on, opened by one name, for cases that are computed.
-- Assumes nothing.
use Rattle.fields.specs.Encoding.{in_bytes, bits_of, field_of, encoded}
use Rattle.writing.specs.Written.{in_turn, join_calls, setting_calls, amount_calls, mark_calls, index_calls, rate_calls, written_calls, filing_of, written_as}
use Rattle.writer.specs.Writer.{writing_lines, writing_answer, writing_buffer}
use Rattle.text.proofs.Opened.{text-opened}

unfoldable pub writer-opened : Unit {0}
unfolding in_bytes bits_of field_of encoded in_turn join_calls setting_calls amount_calls mark_calls index_calls rate_calls written_calls filing_of written_as writing_lines writing_answer writing_buffer text-opened
writer-opened = tt
