-- What the inner functions of `fields` give.
-- Assumes nothing.
use Rattle.std.specs.Prelude.{ℕ, ◌+◌, not, List, [], ◌∷◌, eqb, take, drop}
use Rattle.calls.specs.Indicators.{Indicator}
use Rattle.calls.specs.Answers.{Said, first_of}
use Rattle.contents.specs.Content.{tagged}
use Rattle.fields.specs.Field.{Found, call_then, has_tag}

-- 2 and 3, or the call, of a tag and a content of so many bytes that starts at an offset
unfoldable pub content_said : List Indicator → ℕ → ℕ → List ℕ → ℕ → Said Found
content_said kind tag size bytes at =
    first_of ((2, not (has_tag kind tag)) ∷ (3, not (eqb size (tagged tag).size)) ∷ [])
    (call_then ((tagged tag).call (take size (drop at bytes))) (at + size))
