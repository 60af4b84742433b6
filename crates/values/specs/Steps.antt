-- What summing yearly values asks for.
-- Assumes nothing.
use Rattle.std.specs.Prelude.{ℕ, ◌≤◌, List, [], get_or}
use Rattle.values.specs.Bounds.{yearly_most}

-- no value of a year passes the largest
abbrev pub YearsWithin : List (List ℕ) → Type 0
YearsWithin values = (year operator : ℕ) → get_or (get_or values year []) operator 0 ≤ yearly_most
