-- One step of a reading against the run of the fields that are left: what the reading comes to in the end stays the same.
-- Assumes nothing.
use Prim.Native.Nat.{ℕ, suc, ◌+◌, ◌-◌, ◌≤◌, ◌<◌}
use mathlib.Core.Path.{◌≡◌, refl}
use mathlib.Core.Bool.{Bool, true, false, cond}
use mathlib.Core.List.{List}
use native.Mathlib.Numerals.{add-one}
use native.Mathlib.Omega.{arith}
use lib.ListN.{length}
use Rattle.calls.specs.declared.Call.{Call}
use Rattle.calls.specs.Indicators.{Indicator}
use Rattle.calls.specs.Answers.{Said, refused_by, accepted, on_answer, is_refused}
use Rattle.ledger.specs.Calls.{apply, Outcome}
use Rattle.fields.specs.Field.{Found, at_end, call_then, field_in}
use Rattle.filing.specs.Reader.{Fields, followed, fields_from, Reached, reading, run}
use Rattle.reader.specs.Steps.{Turned, stopped, advanced, stepped_on, stepped}
use Rattle.fields.proofs.FieldLaws.{Stands, stands}
use Rattle.filing.proofs.WalkLaws.{after, fields-next}

-- a call that was applied: the next field follows
abbrev moved : Reached → ℕ → Outcome → Turned
moved r next given = record { reached = reading given.book (r.applied + 1) next given.said; continues = true }

-- what a reading comes to in the end
unfoldable pub completed : List Indicator → List ℕ → Turned → Reached
completed kind bytes turn =
    cond turn.continues (run kind turn.reached.book turn.reached.applied (fields_from kind (length bytes) bytes turn.reached.offset))
    turn.reached

-- a reading under way from a first one: no more fields than bytes, and what it comes to in the end is the same
pub record Continued (kind : List Indicator) (bytes : List ℕ) (first turn : Turned) : Type 0 where
  pub counted : turn.reached.applied ≤ turn.reached.offset
  pub same : completed kind bytes turn ≡ completed kind bytes first

-- how much is left to read, more than nothing while it continues
unfoldable pub remaining : List ℕ → Turned → ℕ
remaining bytes turn = cond turn.continues (suc (length bytes - turn.reached.offset)) 0

-- of a reading that continues
pub remaining-more : (bytes : List ℕ) (turn : Turned) → turn.continues ≡ true → remaining bytes turn ≡ suc (length bytes - turn.reached.offset)
unfolding remaining
remaining-more bytes turn more = rw more refl

pub completed-more : (kind : List Indicator) (bytes : List ℕ) (turn : Turned) → turn.continues ≡ true → completed kind bytes turn
    ≡ run kind turn.reached.book turn.reached.applied (fields_from kind (length bytes) bytes turn.reached.offset)
unfolding completed
completed-more kind bytes turn more = rw more refl

pub completed-stopped : (kind : List Indicator) (bytes : List ℕ) (turn : Turned) → turn.continues ≡ false → completed kind bytes turn ≡ turn.reached
unfolding completed
completed-stopped kind bytes turn stops = rw stops refl

-- a turn that follows a reading: no more fields than bytes again, and less is left to read
pub record Follows (bytes : List ℕ) (r : Reached) (turn : Turned) : Type 0 where
  pub counted : turn.reached.applied ≤ turn.reached.offset
  pub less : remaining bytes turn < suc (length bytes - r.offset)

module _ (kind : List Indicator) (bytes : List ℕ) (r : Reached) where
  abbrev left : Fields
  left = fields_from kind (length bytes) bytes r.offset

  pub step-completed : completed kind bytes (stepped kind r (field_in kind bytes r.offset)) ≡ run kind r.book r.applied left
  unfolding completed stepped stepped_on stopped advanced run followed on_answer
  step-completed = rw (fields-next kind bytes r.offset) (go (field_in kind bytes r.offset))
    where
      by_answer : (call : Call) (next : ℕ) (refused : Bool) → is_refused (apply kind r.book call).said ≡ refused
          → completed kind bytes (cond refused (stopped r (apply kind r.book call).said) (moved r next (apply kind r.book call)))
          ≡ cond refused (reading r.book r.applied r.offset (apply kind r.book call).said)
          (run kind (apply kind r.book call).book (suc r.applied) (fields_from kind (length bytes) bytes next))
      by_answer call next true e = refl
      by_answer call next false e = rw (add-one r.applied) refl

      go : (found : Said Found) → completed kind bytes (stepped kind r found) ≡ run kind r.book r.applied (after (fields_from kind (length bytes) bytes) r.offset found)
      go (accepted (call_then call next)) = by_answer call next (is_refused (apply kind r.book call).said) refl
      go (accepted at_end) = refl
      go (refused_by number) = refl

  pub step_follows : r.applied ≤ r.offset → Follows bytes r (stepped kind r (field_in kind bytes r.offset))
  unfolding remaining stepped stepped_on stopped advanced on_answer
  step_follows counted = go (field_in kind bytes r.offset) (stands kind bytes r.offset)
    where
      by_answer : (given : Outcome) (next : ℕ) (refused : Bool) → (r.offset + 3 ≤ next) × (next ≤ length bytes)
          → Follows bytes r (cond refused (stopped r given.said) (moved r next given))
      by_answer given next true placed = record { counted = counted; less = omega arith }
      by_answer given next false placed = record { counted = omega arith; less = omega arith }

      go : (found : Said Found) → Stands bytes r.offset found → Follows bytes r (stepped kind r found)
      go (accepted (call_then call next)) placed = by_answer (apply kind r.book call) next (is_refused (apply kind r.book call).said) placed
      go (accepted at_end) placed = record { counted = counted; less = omega arith }
      go (refused_by number) placed = record { counted = counted; less = omega arith }
