-- Whether a book has what settling needs (01, numbers 11 and 12).
-- Assumes nothing.
use Rattle.std.specs.Prelude.{ℕ, Bool, true, not, ◌&&◌, ◌||◌, List, [], ◌∷◌, eqb}
use Rattle.calls.specs.Limits.{operators, setting_count}
use Rattle.book.specs.declared.Book.{Book}
use Rattle.book.specs.Book.{is_joined, is_marked, setting_of, every}
use Rattle.values.specs.Operators.{any}
use Rattle.calls.specs.Indicators.{Indicator, is_network}

-- a joined operator has 0 of a setting
unfoldable pub setting_missing : Book → ℕ → Bool
setting_missing b which = any operators (λ (operator : ℕ). is_joined b operator && eqb (setting_of b operator which) 0)

-- 11: "a joined operator has 0 cabins or access points", and of cabins "if any of the three is 0" (02, point 3); of gas it "looks at access
-- points alone" (point 4)
unfoldable pub network_missing : Book → List Indicator → Bool
network_missing b indicators = any setting_count (λ (which : ℕ). is_network indicators which && setting_missing b which)

-- 12: "every joined operator marked at all six indicators", here at all of a list: of gas it looks "at the two gas indicators" (02, point 4)
unfoldable pub is_marked_at_all : Book → List Indicator → ℕ → Bool
is_marked_at_all b [] operator = true
is_marked_at_all b (indicator ∷ rest) operator = is_marked b operator indicator.number && is_marked_at_all b rest operator

unfoldable pub all_marked : Book → List Indicator → Bool
all_marked b indicators = every operators (λ (operator : ℕ). not (is_joined b operator) || is_marked_at_all b indicators operator)
