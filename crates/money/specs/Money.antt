-- From points to adjustments (01, "Settlement"; annex 9, 5.2). Money in cents, by operator.
-- Assumes nothing.
use Rattle.std.specs.Prelude.{ℕ, ◌*◌, ◌-◌, ◌/◌, min, cond, List, [], ◌∷◌, ltb, ℤ, pos, ◌+ℤ◌, get_or}
use Rattle.std.proofs.Math.IntN.{sub_ℕ}
use Rattle.calls.specs.Limits.{operators}
use Rattle.book.specs.declared.Book.{Book}
use Rattle.book.specs.Book.{setting_of}
use Rattle.apportion.specs.Sum.{sum}
use Rattle.apportion.specs.Share.{share}
use Rattle.values.specs.Operators.{table, each, settings_of, sizes_of}
use Rattle.calls.specs.Indicators.{Indicator}
use Rattle.indicators.specs.Points.{all_points}

-- "Pot = pot rate × (sum of incomes) / 1,000,000, rounded down"; access points are setting 1, income is setting 2
unfoldable pub pot : Book → ℕ
pot b = b.pot_rate * sum (settings_of b 2) / 1000000

-- "Contributions share the pot by access points. Returns share it by access points × points."
unfoldable pub contributions : Book → List ℕ
contributions b = share (pot b) (settings_of b 1) (sizes_of b)

unfoldable pub returns : Book → List Indicator → List ℕ
returns b indicators = share (pot b) (each (λ (operator : ℕ). setting_of b operator 1 * all_points b indicators operator)) (sizes_of b)

-- "Limit = cap rate × income / 1,000,000, rounded down"
unfoldable pub limits : Book → List ℕ
limits b = each (λ (operator : ℕ). b.cap_rate * setting_of b operator 2 / 1000000)

-- what one list has more than another, each cut to its limit
unfoldable pub capped : List ℕ → List ℕ → List ℕ → List ℕ
capped more less limit = each (λ (operator : ℕ). min (get_or more operator 0 - get_or less operator 0) (get_or limit operator 0))

-- a side, "shared again to the smaller sum, by its cut amounts", if it is the larger
unfoldable pub balanced : List ℕ → List ℕ → List ℕ → List ℕ
balanced side other sizes = cond (ltb (sum other) (sum side)) (share (sum other) side sizes) side

-- "That is the adjustment": a bonus, where more is received than paid, is above 0, a malus below
unfoldable pub adjusted_by : List ℕ → List ℕ → List ℕ → List ℕ → List ℤ
adjusted_by received paid limit sizes =
    let bonuses : List ℕ = capped received paid limit in
    let maluses : List ℕ = capped paid received limit in
    table operators (λ (operator : ℕ). sub_ℕ (get_or (balanced bonuses maluses sizes) operator 0) (get_or (balanced maluses bonuses sizes) operator 0))

unfoldable pub adjustments : Book → List Indicator → List ℤ
adjustments b indicators = adjusted_by (returns b indicators) (contributions b) (limits b) (sizes_of b)

-- their sum, with its sign
unfoldable pub sumℤ : List ℤ → ℤ
sumℤ [] = pos 0
sumℤ (x ∷ xs) = x +ℤ sumℤ xs
