-- Where a run of fields ends (specs/Ends.antt).
-- Assumes nothing.
use Prim.Native.Nat.{ℕ, zero, suc, ◌+◌, ◌≤◌}
use mathlib.Core.Path.{◌≡◌, refl, ap, ◌∙◌}
use mathlib.Core.Bool.{true≢false}
use mathlib.Core.List.{List}
use native.Mathlib.Omega.{arith}
use lib.ListN.{length, get_or}
use Rattle.calls.specs.Indicators.{Indicator}
use Rattle.calls.specs.Answers.{Said, refused_by, accepted, on_answer, is_refused}
use Rattle.book.specs.declared.Book.{Book}
use Rattle.fields.specs.Field.{Found, at_end, call_then, field_in}
use Rattle.fields.proofs.FieldLaws.{Stands, stands}
use Rattle.filing.specs.Reader.{Fields, field, ended, broken, followed, fields_from, fields_in}
use Rattle.filing.specs.Laws.{calls_in, offsets_in}
use Rattle.filing.proofs.WalkLaws.{after}
use Rattle.filing.proofs.ReadLaws.{read-as-calls}
use Rattle.filing.specs.Ends.{end_in, found_in, EndsAtLength, EndsAsReading}

-- the last of the offsets
last-offset : (fields : Fields) → get_or (offsets_in fields) (length (calls_in fields)) 0 ≡ end_in fields
unfolding offsets_in calls_in end_in
last-offset (field call at rest) = last-offset rest
last-offset (ended at) = refl
last-offset (broken number at) = refl

pub ends-as-reading : (kind : List Indicator) (b : Book) (bytes : List ℕ) → EndsAsReading kind b bytes
ends-as-reading kind b bytes ranged all =
    (read-as-calls kind b bytes ranged).at_offset ∙ ap (λ (n : ℕ). get_or (offsets_in (fields_in kind bytes)) n 0) all ∙ last-offset (fields_in kind bytes)

-- with as many fields allowed as bytes are left
to-length : (kind : List Indicator) (most : ℕ) (bytes : List ℕ) (at : ℕ) → length bytes ≤ most + at → at ≤ length bytes
    → found_in (fields_from kind most bytes at) ≡ accepted at_end → end_in (fields_from kind most bytes at) ≡ length bytes
unfolding fields_from followed on_answer is_refused found_in end_in
to-length kind zero bytes at enough inside = λ e. omega arith
to-length kind (suc most) bytes at enough inside = go (λ next. to-length kind most bytes next) (field_in kind bytes at) (stands kind bytes at)
  where
    go : ((next : ℕ) → length bytes ≤ most + next → next ≤ length bytes
        → found_in (fields_from kind most bytes next) ≡ accepted at_end → end_in (fields_from kind most bytes next) ≡ length bytes)
        → (found : Said Found) → Stands bytes at found → found_in (after (fields_from kind most bytes) at found) ≡ accepted at_end
        → end_in (after (fields_from kind most bytes) at found) ≡ length bytes
    go later (accepted (call_then call next)) placed e = later next (omega arith) placed.1 e
    go later (accepted at_end) placed e = omega arith
    go later (refused_by number) placed e = absurd (true≢false (ap is_refused e))

pub ends-at-length : (kind : List Indicator) (bytes : List ℕ) → EndsAtLength kind bytes
unfolding fields_in
ends-at-length kind bytes = to-length kind (length bytes) bytes 0 (omega arith) (omega arith)
