-- The bytes of a field to be written, by the numbers that it is made of.
-- Assumes nothing.
use Rattle.std.specs.Prelude.{ℕ, ◌+◌, List, ◌++◌}
use Rattle.fields.specs.Encoding.{in_bytes}
use Rattle.encoding.specs.declared.Encoded.{Encoded}

-- "tag (1 byte), length (2 bytes), content"
unfoldable pub bytes_in : Encoded → List ℕ
bytes_in field =
    in_bytes 1 field.tag ++ in_bytes 2 (field.front_width + field.value_width)
    ++ in_bytes field.front_width field.front ++ in_bytes field.value_width field.value
