-- Reading a filing into a book: its fields applied in order, up to the first refusal (01, "The filing").
-- Assumes nothing.
use Rattle.std.specs.Prelude.{ℕ, zero, suc, cond, List, length}
use Rattle.calls.specs.declared.Call.{Call}
use Rattle.calls.specs.Indicators.{Indicator, electricity, gas}
use Rattle.calls.specs.Answers.{Said, refused_by, accepted, on_answer, is_refused, Acceptance, yes_said, said}
use Rattle.book.specs.declared.Book.{Book}
use Rattle.book.specs.Book.{in_range}
use Rattle.ledger.specs.Calls.{apply}
use Rattle.fields.specs.Field.{Found, at_end, call_then, field_in}
use Rattle.filing.specs.declared.Progress.{Progress}
use Rattle.filing.specs.declared.Reading.{Reading}

-- "A filing is a run of fields": each a call with the offset of its tag; the run goes to the end, or to a field refused by 1, 2 or 3
pub data Fields : Type 0 where
  field : Call → ℕ → Fields → Fields
  ended : ℕ → Fields
  broken : ℕ → ℕ → Fields

unfoldable pub followed : (ℕ → Fields) → ℕ → Found → Fields
followed from at at_end = ended at
followed from at (call_then call next) = field call at (from next)

-- the fields from an offset on, at most so many, in a filing of a kind
unfoldable pub fields_from : List Indicator → ℕ → List ℕ → ℕ → Fields
fields_from kind zero bytes at = ended at
fields_from kind (suc most) bytes at = on_answer (λ (number : ℕ). broken number at) (followed (fields_from kind most bytes) at) (field_in kind bytes at)

-- all fields: each has 3 bytes or more, so there are no more fields than bytes
unfoldable pub fields_in : List Indicator → List ℕ → Fields
fields_in kind bytes = fields_from kind (length bytes) bytes 0

-- what a reading has reached: the book, how many fields were applied, the offset where it stands, and what is said there
pub record Reached : Type 0 where
  pub book : Book
  pub applied : ℕ
  pub offset : ℕ
  pub said : Said Acceptance

abbrev pub reading : Book → ℕ → ℕ → Said Acceptance → Reached
reading b applied offset answer = record { book = b; applied = applied; offset = offset; said = answer }

-- reading into a book of a kind
module _ (kind : List Indicator) where
  -- "applies fields in order up to the first refusal, keeps those before it, and answers with the number applied and the offset of the
  -- refused tag (the filing's length if none)"
  unfoldable pub run : Book → ℕ → Fields → Reached
  run b applied (field call at rest) =
      cond (is_refused (apply kind b call).said) (reading b applied at (apply kind b call).said) (run (apply kind b call).book (suc applied) rest)
  run b applied (ended at) = reading b applied at (accepted yes_said)
  run b applied (broken number at) = reading b applied at (refused_by number)

  -- reading from an offset on; a book out of range: 5, none applied, the offset where it was to begin
  unfoldable pub read_from_as : Book → List ℕ → ℕ → Reached
  read_from_as b bytes at = cond (in_range kind b) (run b 0 (fields_from kind (length bytes) bytes at)) (reading b 0 at (refused_by 5))

  -- reading a filing: from its first byte on, so for a book out of range "none applied, offset 0"
  unfoldable pub read_as : Book → List ℕ → Reached
  read_as b bytes = read_from_as b bytes 0

-- "A gas filing is read by its own call into a gas book" (02, point 4), any other into one of electricity
abbrev pub fields_of : List ℕ → Fields
fields_of = fields_in electricity

abbrev pub read_from : Book → List ℕ → ℕ → Reached
read_from = read_from_as electricity

abbrev pub read : Book → List ℕ → Reached
read = read_as electricity

abbrev pub read_from_gas : Book → List ℕ → ℕ → Reached
read_from_gas = read_from_as gas

abbrev pub read_gas : Book → List ℕ → Reached
read_gas = read_as gas

-- what the code's progress says beside a book, and what its result says
abbrev pub reached_by : Book → Progress → Reached
reached_by b progress = reading b progress.applied progress.offset (said progress.answer)

abbrev pub told : Reading → Reached
told r = reached_by r.book r.progress
