-- One line of the printed settlement as bytes (01, "The printed settlement").
-- Assumes nothing.
use Rattle.std.specs.Prelude.{ℕ, ◌+◌, ◌*◌, List, [], ◌∷◌, ◌++◌, ℤ, get_or}
use Rattle.calls.specs.Limits.{operators, indicator_count}
use Rattle.apportion.specs.Sum.{sum}
use Rattle.values.specs.Operators.{table}
use Rattle.settlement.specs.declared.Settlement.{Settlement}
use Rattle.text.specs.Text.{decimal, signed_decimal}
use Rattle.columns.specs.declared.Row.{Row}

-- "single spaces, each line ended by byte 10"
unfoldable pub line : List ℕ → List ℕ → List ℕ → List ℕ → List ℕ → List ℕ
line name points out received adjustment = name ++ (32 ∷ points) ++ (32 ∷ out) ++ (32 ∷ received) ++ (32 ∷ adjustment) ++ (10 ∷ [])

-- "Points in hundredths, money in cents"
abbrev pub number_line : List ℕ → ℕ → ℕ → ℕ → ℤ → List ℕ
number_line name points out received adjustment = line name (decimal points) (decimal out) (decimal received) (signed_decimal adjustment)

-- all of a line but its name
abbrev pub columns_of : Row → List ℕ
columns_of row = number_line [] row.points row.paid row.received row.adjustment

-- an operator's points over all indicators
unfoldable pub points_of_operator : Settlement → ℕ → ℕ
points_of_operator s operator = sum (table indicator_count (λ (number : ℕ). get_or s.points (operators * number + operator) 0))
