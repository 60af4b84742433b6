-- Reading is filing the calls that the bytes decode to, up to the first refusal (specs/Laws.antt).
-- Assumes nothing.
use Prim.Native.Nat.{ℕ, zero, suc, ◌+◌, ◌≤◌, ◌<◌}
use mathlib.Core.Path.{◌≡◌, refl, sym, ap, subst, ◌∙◌}
use mathlib.Core.Bool.{Bool, true, false, cond, true≢false}
use mathlib.Core.List.{List, [], ◌∷◌}
use native.Mathlib.Omega.{arith}
use lib.ListN.{length, get_or, take}
use Rattle.calls.specs.declared.Call.{Call}
use Rattle.calls.specs.declared.Call.TheVariants.{Join}
use Rattle.calls.specs.Indicators.{Indicator}
use Rattle.calls.specs.Answers.{Said, refused_by, accepted, on_answer, is_refused, Acceptance, yes_said}
use Rattle.book.specs.declared.Book.{Book}
use Rattle.book.specs.Book.{in_range}
use Rattle.ledger.specs.Calls.{apply, file_as, filed_book, filed_answers}
use Rattle.history.proofs.Kept.{filed-applied, filed-stays}
use Rattle.fields.specs.Field.{Found, at_end, call_then, field_in}
use Rattle.filing.specs.Reader.{Fields, field, ended, broken, followed, fields_from, fields_in, Reached, reading, run, read_from_as, read_as}
use Rattle.filing.specs.Laws.{calls_in, offsets_in, ending, ReadAsCallsIfInRange}
use Rattle.fields.proofs.FieldLaws.{Stands, stands}
use Rattle.filing.proofs.WalkLaws.{after}

-- a run of fields of which so many were applied
record Runs (kind : List Indicator) (b : Book) (fields : Fields) (many : ℕ) (r : Reached) : Type 0 where
  within : many ≤ length (calls_in fields)
  left_book : r.book ≡ filed_book kind b (take many (calls_in fields))
  none_refused : (place : ℕ) → place < many → is_refused (get_or (filed_answers kind b (take many (calls_in fields))) place (accepted yes_said)) ≡ false
  by_call : many < length (calls_in fields)
      → (r.said ≡ (file_as kind r.book (get_or (calls_in fields) many (Join 0))).said) × (is_refused r.said ≡ true)
  by_bytes : many ≡ length (calls_in fields) → r.said ≡ ending fields
  at_offset : r.offset ≡ get_or (offsets_in fields) many 0

-- a run that counts on from a number
abbrev RunsFrom : List Indicator → Book → Fields → ℕ → Reached → Type 0
RunsFrom kind b fields applied r = (many : ℕ) × (r.applied ≡ applied + many) × Runs kind b fields many r

-- no call is left
no_call : (kind : List Indicator) (fields : Fields) (at : ℕ) → calls_in fields ≡ [] → offsets_in fields ≡ at ∷ [] → (b : Book) (applied : ℕ)
    → RunsFrom kind b fields applied (reading b applied at (ending fields))
unfolding filed_book
no_call kind fields at none here b applied = (
  0,
  omega arith,
  record {
    within = omega arith;
    left_book = refl;
    none_refused = λ place lt. absurd (omega arith);
    by_call = λ lt. absurd (omega (arith, ap length none));
    by_bytes = λ e. refl;
    at_offset = rw here refl;
  },
)

-- one call, and the run of the fields after it
module _ (kind : List Indicator) (call : Call) (at : ℕ) (rest : Fields) (b : Book) (applied : ℕ) where
  first-or-later : (answers : List (Said Acceptance)) (many : ℕ) → is_refused (file_as kind b call).said ≡ false
      → ((place : ℕ) → place < many → is_refused (get_or answers place (accepted yes_said)) ≡ false)
      → (place : ℕ) → place < suc many → is_refused (get_or ((file_as kind b call).said ∷ answers) place (accepted yes_said)) ≡ false
  first-or-later answers many first later zero lt = first
  first-or-later answers many first later (suc place) lt = later place (omega arith)

  by_answer : (refused : Bool) → is_refused (file_as kind b call).said ≡ refused
      → RunsFrom kind (file_as kind b call).book rest (suc applied) (run kind (file_as kind b call).book (suc applied) rest)
      → RunsFrom kind b (field call at rest) applied
      (cond refused (reading b applied at (file_as kind b call).said) (run kind (file_as kind b call).book (suc applied) rest))
  unfolding calls_in offsets_in ending filed_book filed_answers
  by_answer true e later = (
    0,
    omega arith,
    record {
      within = omega arith;
      left_book = refl;
      none_refused = λ place lt. absurd (omega arith);
      by_call = λ lt. (refl, e);
      by_bytes = λ none. absurd (omega arith);
      at_offset = refl;
    },
  )
  by_answer false e later = (
    suc later.0,
    omega (arith, later.1),
    record {
      within = omega (arith, later.2.within);
      left_book = later.2.left_book;
      none_refused = first-or-later (filed_answers kind (file_as kind b call).book (take later.0 (calls_in rest))) later.0 e later.2.none_refused;
      by_call = λ lt. later.2.by_call (omega arith);
      by_bytes = λ all. later.2.by_bytes (omega arith);
      at_offset = later.2.at_offset;
    },
  )

  one_more : in_range kind b ≡ true → RunsFrom kind (file_as kind b call).book rest (suc applied) (run kind (file_as kind b call).book (suc applied) rest)
      → RunsFrom kind b (field call at rest) applied (run kind b applied (field call at rest))
  unfolding run
  one_more ranged later = rw (← filed-applied kind b call ranged) (by_answer (is_refused (file_as kind b call).said) refl later)

runs : (kind : List Indicator) (fields : Fields) (b : Book) (applied : ℕ) → in_range kind b ≡ true → RunsFrom kind b fields applied (run kind b applied fields)
unfolding run calls_in offsets_in ending
runs kind (ended at) b applied ranged = no_call kind (ended at) at refl refl b applied
runs kind (broken number at) b applied ranged = no_call kind (broken number at) at refl refl b applied
runs kind (field call at rest) b applied ranged =
    one_more kind call at rest b applied ranged (runs kind rest (file_as kind b call).book (suc applied) (filed-stays kind b call ranged))

-- a run that nothing refuses gets to the end: as many fields are allowed as bytes are left
abbrev ToTheEnd : List ℕ → Reached → Type 0
ToTheEnd bytes r = is_refused r.said ≡ false → r.offset ≡ length bytes

end-by-answer : (bytes : List ℕ) (refused : Bool) (r next : Reached) → is_refused r.said ≡ refused → ToTheEnd bytes next → ToTheEnd bytes (cond refused r next)
end-by-answer bytes true r next e later fine = absurd (true≢false (sym e ∙ fine))
end-by-answer bytes false r next e later fine = later fine

to_the_end : (kind : List Indicator) (most : ℕ) (bytes : List ℕ) (at : ℕ) → length bytes ≤ most + at → at ≤ length bytes
    → (b : Book) (applied : ℕ) → ToTheEnd bytes (run kind b applied (fields_from kind most bytes at))
unfolding fields_from followed run is_refused on_answer
to_the_end kind zero bytes at enough inside b applied = λ fine. omega arith
to_the_end kind (suc most) bytes at enough inside b applied =
    go (λ next. to_the_end kind most bytes next) (field_in kind bytes at) (stands kind bytes at)
  where
    go : ((next : ℕ) → length bytes ≤ most + next → next ≤ length bytes
        → (b : Book) (applied : ℕ) → ToTheEnd bytes (run kind b applied (fields_from kind most bytes next)))
        → (found : Said Found) → Stands bytes at found → ToTheEnd bytes (run kind b applied (after (fields_from kind most bytes) at found))
    go later (accepted (call_then call next)) placed =
        end-by-answer bytes (is_refused (apply kind b call).said) (reading b applied at (apply kind b call).said) _ refl
        (later next (omega arith) placed.1 (apply kind b call).book (suc applied))
    go later (accepted at_end) placed = λ fine. omega arith
    go later (refused_by number) placed = λ fine. absurd (true≢false fine)

read-runs : (kind : List Indicator) (b : Book) (bytes : List ℕ) → in_range kind b ≡ true → read_as kind b bytes ≡ run kind b 0 (fields_in kind bytes)
unfolding read_as read_from_as fields_in
read-runs kind b bytes valid = rw valid refl

pub read-as-calls : (kind : List Indicator) (b : Book) (bytes : List ℕ) → ReadAsCallsIfInRange kind b bytes
unfolding fields_in
read-as-calls kind b bytes ranged =
    let reads : read_as kind b bytes ≡ run kind b 0 (fields_in kind bytes) = read-runs kind b bytes ranged in
    let found : RunsFrom kind b (fields_in kind bytes) 0 (read_as kind b bytes) = rw reads (runs kind (fields_in kind bytes) b 0 ranged) in
    let many : (read_as kind b bytes).applied ≡ found.0 = omega (arith, found.1) in
    let ran : Runs kind b (fields_in kind bytes) (read_as kind b bytes).applied (read_as kind b bytes) =
    subst (λ (n : ℕ). Runs kind b (fields_in kind bytes) n (read_as kind b bytes)) (sym many) found.2 in
    record {
      counted = ran.within;
      left_book = ran.left_book;
      none_refused = ran.none_refused;
      by_call = ran.by_call;
      by_bytes = ran.by_bytes;
      at_offset = ran.at_offset;
      at_length = rw reads (to_the_end kind (length bytes) bytes 0 (omega arith) (omega arith) b 0);
    }
