-- The fields of a filing one after the other, with enough of them allowed; and that a refused call leaves the book.
-- Assumes nothing.
use Prim.Native.Nat.{ℕ, zero, suc, ◌+◌, ◌-◌, ◌≤◌}
use mathlib.Core.Path.{◌≡◌, refl, sym, ap}
use mathlib.Core.Bool.{true, false, false≢true}
use mathlib.Core.List.{List}
use native.Mathlib.Omega.{arith}
use lib.ListN.{length}
use Rattle.calls.specs.declared.Call.{Call}
use Rattle.calls.specs.Indicators.{Indicator}
use Rattle.calls.specs.Answers.{Said, refused_by, accepted, on_answer, is_refused, Acceptance}
use Rattle.book.specs.declared.Book.{Book}
use Rattle.book.specs.Book.{is_joined, figure_of}
use Rattle.ledger.specs.Table.{answer_to}
use Rattle.ledger.specs.Calls.{changed, outcome_of, apply}
use Rattle.fields.specs.Field.{Found, at_end, call_then, field_in}
use Rattle.filing.specs.Reader.{Fields, field, broken, followed, fields_from}
use Rattle.fields.proofs.FieldLaws.{Stands, ends, stands}

-- what follows an answer of the field reader
abbrev pub after : (ℕ → Fields) → ℕ → Said Found → Fields
after from at found = on_answer (λ (number : ℕ). broken number at) (followed from at) found

-- with as many fields allowed as bytes are left, one more changes nothing
fields-enough : (kind : List Indicator) (most : ℕ) (bytes : List ℕ) (at : ℕ) → length bytes ≤ most + at → fields_from kind (suc most) bytes at ≡ fields_from kind most bytes at
unfolding fields_from followed on_answer
fields-enough kind zero bytes at le = rw (ends kind bytes at (omega arith)) refl
fields-enough kind (suc most) bytes at le = go (λ next. fields-enough kind most bytes next) (field_in kind bytes at) (stands kind bytes at)
  where
    go : ((next : ℕ) → length bytes ≤ most + next → fields_from kind (suc most) bytes next ≡ fields_from kind most bytes next) → (found : Said Found)
        → Stands bytes at found → after (fields_from kind (suc most) bytes) at found ≡ after (fields_from kind most bytes) at found
    go later (accepted (call_then call next)) placed = ap (field call at) (later next (omega arith))
    go later (accepted at_end) placed = refl
    go later (refused_by number) placed = refl

pub fields-next : (kind : List Indicator) (bytes : List ℕ) (at : ℕ) → fields_from kind (length bytes) bytes at ≡ after (fields_from kind (length bytes) bytes) at (field_in kind bytes at)
unfolding fields_from
fields-next kind bytes at = sym (fields-enough kind (length bytes) bytes at (omega arith))

-- a refused call leaves the book
pub refused-leaves : (kind : List Indicator) (b : Book) (call : Call) → is_refused (apply kind b call).said ≡ true → (apply kind b call).book ≡ b
unfolding apply is_refused outcome_of on_answer
refused-leaves kind b call = go (changed kind b call) (answer_to kind (is_joined b) (figure_of b) call)
  where
    go : (new : Book) (answer : Said Acceptance) → is_refused (outcome_of b new answer).said ≡ true → (outcome_of b new answer).book ≡ b
    go new (accepted value) e = absurd (false≢true e)
    go new (refused_by number) e = refl
