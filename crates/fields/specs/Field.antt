-- A field of a filing: tag, length and content, and the call that it files (01, "The filing" and numbers 1, 2, 3).
-- Assumes nothing.
use Rattle.std.specs.Prelude.{ℕ, ◌+◌, ◌-◌, Bool, cond, not, ◌&&◌, ◌||◌, List, [], ◌∷◌, eqb, ltb, length, take, drop}
use Rattle.calls.specs.declared.Call.{Call}
use Rattle.calls.specs.Indicators.{Indicator, electricity, takes_interruptions}
use Rattle.calls.specs.Answers.{Said, refused_by, accepted, first_of, number_of}
use Rattle.contents.specs.Content.{unsigned, byte, is_known, tagged}
use Rattle.fields.specs.declared.Field.{Field}
use Rattle.fields.specs.declared.Field.TheVariants.{CallThen, End, Refused}

-- what stands in a filing at an offset: the end, or a call and the offset after it
pub data Found : Type 0 where
  at_end : Found
  call_then : Call → ℕ → Found

-- how many bytes are left from an offset on
abbrev pub left_at : List ℕ → ℕ → ℕ
left_at bytes at = length bytes - at

-- the length that the field at an offset gives
abbrev pub size_at : List ℕ → ℕ → ℕ
size_at bytes at = unsigned 2 bytes (at + 1)

-- the tags of a kind's filings: "There an interruption field is refused by 2" (02, point 4)
unfoldable pub has_tag : List Indicator → ℕ → Bool
has_tag kind tag = is_known tag && (not (eqb tag 3) || takes_interruptions kind)

-- 1, 2 and 3, each with whether it applies to the field at an offset, where a byte is left
unfoldable pub field_lines : List Indicator → List ℕ → ℕ → List (ℕ × Bool)
field_lines kind bytes at =
    -- "1 or 2 bytes left, or the length passes the end"
    (1, eqb (left_at bytes at) 1 || eqb (left_at bytes at) 2 || ltb (left_at bytes at - 3) (size_at bytes at))
    ∷ (2, not (has_tag kind (byte bytes at))) ∷ (3, not (eqb (size_at bytes at) (tagged (byte bytes at)).size)) ∷ []

unfoldable pub call_at : List ℕ → ℕ → Found
call_at bytes at = call_then ((tagged (byte bytes at)).call (take (size_at bytes at) (drop (at + 3) bytes))) (at + 3 + size_at bytes at)

-- where no byte is left the end, else a field
unfoldable pub field_in : List Indicator → List ℕ → ℕ → Said Found
field_in kind bytes at = cond (eqb (left_at bytes at) 0) (accepted at_end) (first_of (field_lines kind bytes at) (call_at bytes at))

-- in a filing of electricity
abbrev pub field_at : List ℕ → ℕ → Said Found
field_at = field_in electricity

-- what the code's answer says
abbrev pub field_said : Field → Said Found
field_said (CallThen call next) = accepted (call_then call next)
field_said End = accepted at_end
field_said (Refused refusal) = refused_by (number_of refusal)
