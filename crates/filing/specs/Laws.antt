-- Reading a filing is filing the calls that its bytes decode to, one by one, up to the first refusal: so the theorem over lists of calls
-- speaks of filings too. Proofs: proofs/ReadLaws.antt.
-- Assumes nothing.
use Rattle.std.specs.Prelude.{ℕ, ◌≤◌, ◌<◌, ◌≡◌, true, false, List, [], ◌∷◌, length, get_or, take}
use Rattle.calls.specs.declared.Call.{Call}
use Rattle.calls.specs.declared.Call.TheVariants.{Join}
use Rattle.calls.specs.Indicators.{Indicator}
use Rattle.calls.specs.Answers.{Said, refused_by, accepted, is_refused, Acceptance, yes_said}
use Rattle.book.specs.declared.Book.{Book}
use Rattle.book.specs.Book.{in_range}
use Rattle.ledger.specs.Calls.{file_as, filed_book, filed_answers}
use Rattle.filing.specs.Reader.{Fields, field, ended, broken, fields_in, Reached, read_as}

-- the calls of a run of fields, the offsets of their tags with that of the end or of the broken field, and what stands there
unfoldable pub calls_in : Fields → List Call
calls_in (field call at rest) = call ∷ calls_in rest
calls_in (ended at) = []
calls_in (broken number at) = []

unfoldable pub offsets_in : Fields → List ℕ
offsets_in (field call at rest) = at ∷ offsets_in rest
offsets_in (ended at) = at ∷ []
offsets_in (broken number at) = at ∷ []

unfoldable pub ending : Fields → Said Acceptance
ending (field call at rest) = ending rest
ending (ended at) = accepted yes_said
ending (broken number at) = refused_by number

module _ (kind : List Indicator) (b : Book) (bytes : List ℕ) where
  abbrev pub read_into : Reached
  read_into = read_as kind b bytes

  -- the calls of the filing, and those that were applied
  abbrev pub filed : List Call
  filed = calls_in (fields_in kind bytes)

  abbrev pub applied : List Call
  applied = take read_into.applied filed

  pub record ReadAsCalls : Type 0 where
    pub counted : read_into.applied ≤ length filed
    pub left_book : read_into.book ≡ filed_book kind b applied
    pub none_refused : (place : ℕ) → place < read_into.applied → is_refused (get_or (filed_answers kind b applied) place (accepted yes_said)) ≡ false
    -- stopped by a call: its answer is the call's on the book left
    pub by_call : read_into.applied < length filed
        → (read_into.said ≡ (file_as kind read_into.book (get_or filed read_into.applied (Join 0))).said) × (is_refused read_into.said ≡ true)
    -- stopped by nothing, or by the bytes
    pub by_bytes : read_into.applied ≡ length filed → read_into.said ≡ ending (fields_in kind bytes)
    pub at_offset : read_into.offset ≡ get_or (offsets_in (fields_in kind bytes)) read_into.applied 0
    -- "the filing's length if none"
    pub at_length : is_refused read_into.said ≡ false → read_into.offset ≡ length bytes

-- for every book in the range of the kind
abbrev pub ReadAsCallsIfInRange : List Indicator → Book → List ℕ → Type 0
ReadAsCallsIfInRange kind b bytes = in_range kind b ≡ true → ReadAsCalls kind b bytes
