-- A figure that is filed to or withdrawn from: its new value, or the number by which that is refused (01, numbers 8 and 9).
-- Assumes nothing.
use Rattle.std.specs.Prelude.{ℕ, ◌+◌, ◌-◌, cond, not, ◌&&◌, [], ◌∷◌, ltb, eqb, Result}
use Rattle.calls.specs.declared.Refusal.{Refusal}
use Rattle.calls.specs.Limits.{figure_limit}
use Rattle.calls.specs.Answers.{Said, first_of}
use Rattle.judging.specs.Results.{said_as}

-- what the code's answer says
abbrev pub moved_said : Result ℕ Refusal → Said ℕ
moved_said = said_as (λ new. new)

-- a figure with a value added, or with sign 1 subtracted; any other sign subtracts too, and no call gets here with one
unfoldable pub moved_by : ℕ → ℕ → ℕ → Said ℕ
moved_by sign value old =
    first_of
    -- "a figure would pass 10^11"
    ((8, eqb sign 0 && ltb figure_limit (old + value))
    -- "a figure would fall below 0"
    ∷ (9, not (eqb sign 0) && ltb old value) ∷ [])
    (cond (eqb sign 0) (old + value) (old - value))
