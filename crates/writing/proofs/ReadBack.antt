-- A filing of calls that fit their bytes, and are accepted one by one, is read to its end.
-- Assumes nothing.
use Prim.Native.Nat.{ℕ, zero, suc, ◌+◌, ◌≤◌, ◌<◌}
use mathlib.Core.Path.{◌≡◌, refl, sym, ap, ◌∙◌}
use mathlib.Core.Bool.{true, false}
use mathlib.Core.List.{List, [], ◌∷◌, ◌++◌, append_assoc, append-nil}
use native.Mathlib.Omega.{arith}
use lib.ListN.{length, length-append}
use Rattle.book.specs.declared.Book.{Book}
use Rattle.calls.specs.declared.Call.{Call}
use Rattle.calls.specs.declared.Call.TheVariants.{Join, Setting, Interruption, Amount, Mark, Rates, Index}
use Rattle.calls.specs.Indicators.{Indicator}
use Rattle.calls.specs.Call.{facts_of}
use Rattle.calls.specs.Answers.{accepted, on_answer, is_refused, yes_said}
use Rattle.book.specs.Book.{fresh_book, in_range}
use Rattle.ledger.specs.Calls.{Outcome as Given, apply, file_as, filed_book, filed_answers}
use Rattle.history.proofs.Kept.{fresh-in-range, filed-applied, filed-stays}
use Rattle.fields.specs.Field.{call_then, field_in}
use Rattle.fields.specs.Encoding.{in_bytes, field_of, encoded, FitsBytes}
use Rattle.fields.proofs.FieldLaws.{ends}
use Rattle.fields.proofs.EncodingLaws.{decodes}
use Rattle.filing.specs.Reader.{Fields, field, followed, fields_from, reading, run, read_from_as, read_as}
use Rattle.writing.specs.Written.{filing_of}
use Rattle.writing.specs.Laws.{NoneRefused}

-- every call of a list is one that the kind has, and fits its bytes
abbrev pub AllFit : List Indicator → List Call → Type 0
AllFit kind [] = Unit {0}
AllFit kind (call ∷ rest) = ((facts_of kind call).known ≡ true) × FitsBytes call × AllFit kind rest

-- a field has a tag and a length
pub encoded-long : (call : Call) → 3 ≤ length (encoded call)
unfolding encoded field_of in_bytes
encoded-long (Join operator) = omega arith
encoded-long (Setting operator which value) = omega arith
encoded-long (Interruption operator sign level cause start end weight) = omega arith
encoded-long (Amount operator year figure sign value) = omega arith
encoded-long (Mark operator indicator mark) = omega arith
encoded-long (Rates pot cap) = omega arith
encoded-long (Index number value) = omega arith

-- the end of a filing
reads_end : (kind : List Indicator) (most : ℕ) (bytes : List ℕ) (b : Book) (applied : ℕ)
    → run kind b applied (fields_from kind most bytes (length bytes)) ≡ reading b applied (length bytes) (accepted yes_said)
unfolding fields_from run followed on_answer
reads_end kind zero bytes b applied = refl
reads_end kind (suc most) bytes b applied = rw (ends kind bytes (length bytes) (omega arith)) refl

-- the first field of a filing, and the call that it gives, applied
module _ (kind : List Indicator) (call : Call) (rest : List Call) (before : List ℕ) (most : ℕ) where
  abbrev bytes : List ℕ
  bytes = before ++ encoded call ++ filing_of rest

  abbrev next : ℕ
  next = length before + length (encoded call)

  first_field : (facts_of kind call).known ≡ true → FitsBytes call → fields_from kind (suc most) bytes (length before) ≡ field call (length before) (fields_from kind most bytes next)
  unfolding fields_from followed on_answer
  first_field had fits = rw (decodes kind call had fits before (filing_of rest)) refl

  applied-then : (facts_of kind call).known ≡ true → FitsBytes call → (b : Book) (applied : ℕ) → in_range kind b ≡ true → is_refused (file_as kind b call).said ≡ false
      → run kind b applied (fields_from kind (suc most) bytes (length before)) ≡ run kind (file_as kind b call).book (suc applied) (fields_from kind most bytes next)
  unfolding run
  applied-then had fits b applied ranged fine =
      let filed = filed-applied kind b call ranged in
      let goes : is_refused (apply kind b call).said ≡ false = ap (λ (o : Given). is_refused o.said) (sym filed) ∙ fine in
      rw (first_field had fits, goes, filed) refl

reads : (kind : List Indicator) (calls : List Call) (before : List ℕ) (most : ℕ) (b : Book) (applied : ℕ) → AllFit kind calls → in_range kind b ≡ true
    → NoneRefused (filed_answers kind b calls) → length (filing_of calls) ≤ most
    → run kind b applied (fields_from kind most (before ++ filing_of calls) (length before))
    ≡ reading (filed_book kind b calls) (applied + length calls) (length (before ++ filing_of calls)) (accepted yes_said)
unfolding filing_of filed_book filed_answers
reads kind [] before most b applied fits ranged fine enough =
    let none : applied + 0 ≡ applied = omega arith in
    rw (append-nil, none) (reads_end kind most before b applied)
reads kind (call ∷ rest) before zero b applied fits ranged fine enough =
    absurd (omega (arith, encoded-long call, length-append (encoded call) (filing_of rest)))
reads kind (call ∷ rest) before (suc most) b applied fits ranged fine enough =
    let here : length (before ++ encoded call) ≡ length before + length (encoded call) = length-append before (encoded call) in
    let later = reads kind rest (before ++ encoded call) most (file_as kind b call).book (suc applied) fits.2 (filed-stays kind b call ranged) fine.1
    (omega (arith, encoded-long call, length-append (encoded call) (filing_of rest), enough)) in
    let counted : applied + suc (length rest) ≡ suc applied + length rest = omega arith in
    rw (← append_assoc before (encoded call) (filing_of rest), counted)
    (applied-then kind call rest before most fits.0 fits.1 b applied ranged fine.0 ∙ (rw here at later))

-- a whole filing into a fresh book
pub read-calls : (kind : List Indicator) (calls : List Call) → AllFit kind calls → NoneRefused (filed_answers kind fresh_book calls)
    → read_as kind fresh_book (filing_of calls) ≡ reading (filed_book kind fresh_book calls) (length calls) (length (filing_of calls)) (accepted yes_said)
unfolding read_as read_from_as
read-calls kind calls fits fine =
    let none : 0 + length calls ≡ length calls = omega arith in
    rw (fresh-in-range kind) (rw none at (reads kind calls [] (length (filing_of calls)) fresh_book 0 fits (fresh-in-range kind) fine (omega arith)))
