-- One step of a reading: what the field at the offset makes of what the reading has reached.
-- Assumes nothing.
use Rattle.std.specs.Prelude.{ℕ, ◌+◌, Bool, true, false, cond, List}
use Rattle.std.specs.declared.ops.ControlFlow.{ControlFlow}
use Rattle.std.specs.declared.ops.ControlFlow.TheVariants.{Continue, Break}
use Rattle.calls.specs.Indicators.{Indicator}
use Rattle.calls.specs.Answers.{Said, refused_by, accepted, on_answer, is_refused, Acceptance, yes_said}
use Rattle.book.specs.declared.Book.{Book}
use Rattle.ledger.specs.Calls.{apply, Outcome}
use Rattle.fields.specs.Field.{Found, at_end, call_then}
use Rattle.filing.specs.declared.Progress.{Progress}
use Rattle.filing.specs.Reader.{Reached, reading, reached_by}

-- a reading under way: what it has reached, and whether it goes on with a next field
pub record Turned : Type 0 where
  pub reached : Reached
  pub continues : Bool

-- what the code's step says beside a book
abbrev pub told_turn : Book → ControlFlow Progress Progress → Turned
told_turn b (Continue progress) = record { reached = reached_by b progress; continues = true }
told_turn b (Break progress) = record { reached = reached_by b progress; continues = false }

-- the end, or a field that is refused by its bytes or by its call
unfoldable pub stopped : Reached → Said Acceptance → Turned
stopped r answer = record { reached = reading r.book r.applied r.offset answer; continues = false }

-- a call that was refused stops it; after one that was applied the next field follows
unfoldable pub advanced : Reached → ℕ → Outcome → Turned
advanced r next given =
    cond (is_refused given.said) (stopped r given.said)
    (record { reached = reading given.book (r.applied + 1) next given.said; continues = true })

unfoldable pub stepped_on : List Indicator → Reached → Found → Turned
stepped_on kind r at_end = stopped r (accepted yes_said)
stepped_on kind r (call_then call next) = advanced r next (apply kind r.book call)

unfoldable pub stepped : List Indicator → Reached → Said Found → Turned
stepped kind r found = on_answer (λ (number : ℕ). stopped r (refused_by number)) (stepped_on kind r) found
