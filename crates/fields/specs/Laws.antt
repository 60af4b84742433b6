-- What is answered at every offset of every run of bytes, both ways. The proof is `field-answered` of proofs/FirstOfFields.antt.
-- Assumes nothing.
use Rattle.std.specs.Prelude.{ℕ, ◌<◌, ◌≡◌, ◌↔◌, false, List}
use Rattle.calls.specs.Indicators.{Indicator}
use Rattle.calls.specs.Answers.{refused_by, accepted}
use Rattle.calls.specs.Laws.{applies, IsFirst}
use Rattle.fields.specs.Field.{left_at, at_end, field_lines, call_at, field_in}

pub record FieldAnswered (kind : List Indicator) (bytes : List ℕ) (at : ℕ) : Type 0 where
  -- 1, 2 or 3 exactly when a byte is left, the number applies and none before it in the order does
  pub number : (n : ℕ) → (field_in kind bytes at ≡ refused_by n) ↔ ((0 < left_at bytes at) × IsFirst (field_lines kind bytes at) n)
  -- the end exactly when no byte is left; 1, "1 or 2 bytes left", does not apply there
  pub ends : (field_in kind bytes at ≡ accepted at_end) ↔ (left_at bytes at ≡ 0)
  pub end_not_truncated : left_at bytes at ≡ 0 → applies (field_lines kind bytes at) 1 ≡ false
  -- a call exactly when a byte is left and none of the three applies
  pub calls : (field_in kind bytes at ≡ accepted (call_at bytes at)) ↔ ((0 < left_at bytes at) × ((n : ℕ) → applies (field_lines kind bytes at) n ≡ false))
