-- A walk over a filing: "keeps the lent bytes and the next tag's offset in one record" (01, "The filing").
-- Assumes nothing.
use Rattle.std.specs.Prelude.{ℕ, List}
use Rattle.std.specs.Borrow.{Bor}
use Rattle.calls.specs.Answers.{Said, on_answer}
use Rattle.fields.specs.Field.{Found, at_end, call_then, field_at}
use Rattle.walker.specs.declared.Walker.{Walker}

-- the offset after what is found at an offset: a call's next tag; the same at the end, and where 1, 2 or 3 refuses
unfoldable pub past_found : ℕ → Found → ℕ
past_found at at_end = at
past_found at (call_then call next) = next

unfoldable pub past : ℕ → Said Found → ℕ
past at found = on_answer (λ (number : ℕ). at) (past_found at) found

unfoldable pub offset_after : List ℕ → ℕ → ℕ
offset_after bytes at = past at (field_at bytes at)

abbrev pub walker_at : Bor (List ℕ) → ℕ → Walker
walker_at bytes offset = record { bytes = bytes; offset = offset }

-- what stands at a walker, and the walker after it: the same bytes, and the offset after the field
abbrev pub stands_at : Walker → Said Found
stands_at w = field_at w.bytes.now w.offset

abbrev pub moved_on : Walker → Walker
moved_on w = walker_at w.bytes (offset_after w.bytes.now w.offset)
