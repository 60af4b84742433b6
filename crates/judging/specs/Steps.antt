-- What the inner functions give: parts of crates/calls/specs/Call.antt put together as the code needs them.
-- Assumes nothing.
use Rattle.std.specs.Prelude.{ℕ, ◌≡◌, Option, Some, None}
use Rattle.calls.specs.declared.Reason.{Reason}
use Rattle.calls.specs.Answers.{Acceptance, counted_in, left_out_as}
use Rattle.calls.specs.Call.{outcome}

-- what is judged of an interruption, why it is left out or nothing, as an answer with its year
abbrev pub judged_says : ℕ → Option Reason → Acceptance
judged_says year None = counted_in year
judged_says year (Some reason) = left_out_as reason

abbrev pub JudgedAs : ℕ → ℕ → Option Reason → Type 0
JudgedAs cause seconds judged = (year : ℕ) → judged_says year judged ≡ outcome cause seconds year
