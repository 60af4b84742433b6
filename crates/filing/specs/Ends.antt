-- Where a run of fields ends, as a walk over a filing finds it, and where a reading does (01, "The filing"). Proofs: proofs/EndLaws.antt.
-- Assumes nothing.
use Rattle.std.specs.Prelude.{ℕ, ◌≡◌, true, List, length}
use Rattle.calls.specs.Indicators.{Indicator}
use Rattle.calls.specs.Answers.{Said, refused_by, accepted}
use Rattle.book.specs.declared.Book.{Book}
use Rattle.book.specs.Book.{in_range}
use Rattle.fields.specs.Field.{Found, at_end}
use Rattle.filing.specs.Reader.{Fields, field, ended, broken, fields_in, read_as}
use Rattle.filing.specs.Laws.{calls_in}

-- where a run of fields ends, and what stands there: the end, or what 1, 2 or 3 refuses
unfoldable pub end_in : Fields → ℕ
end_in (field call at rest) = end_in rest
end_in (ended at) = at
end_in (broken number at) = at

unfoldable pub found_in : Fields → Said Found
found_in (field call at rest) = found_in rest
found_in (ended at) = accepted at_end
found_in (broken number at) = refused_by number

-- "the filing's length if none" is refused
abbrev pub EndsAtLength : List Indicator → List ℕ → Type 0
EndsAtLength kind bytes = found_in (fields_in kind bytes) ≡ accepted at_end → end_in (fields_in kind bytes) ≡ length bytes

-- a reading that applies every well formed field ends where the walk does
abbrev pub EndsAsReading : List Indicator → Book → List ℕ → Type 0
EndsAsReading kind b bytes = in_range kind b ≡ true → (read_as kind b bytes).applied ≡ length (calls_in (fields_in kind bytes)) → (read_as kind b bytes).offset ≡ end_in (fields_in kind bytes)
