-- Numbers by operator, as a list of sixteen; and tests of numbers counted, or passed by any.
-- Assumes nothing.
use Rattle.std.specs.Prelude.{ℕ, zero, suc, ◌+◌, Bool, false, cond, ◌||◌, List, [], ◌∷◌, ◌++◌}
use Rattle.calls.specs.Limits.{operators}
use Rattle.book.specs.declared.Book.{Book}
use Rattle.book.specs.Book.{setting_of, figure_of}

-- f 0 to f (n - 1)
unfoldable pub table : {A : Type 0} → ℕ → (ℕ → A) → List A
table zero f = []
table (suc n) f = table n f ++ (f n ∷ [])

-- a number for each of the sixteen operators
unfoldable pub each : (ℕ → ℕ) → List ℕ
each f = table operators f

-- one setting of each operator
abbrev pub settings_of : Book → ℕ → List ℕ
settings_of b which = each (λ (operator : ℕ). setting_of b operator which)

-- what decides between equal remainders in every sharing: "the operator with more access points" comes first (02, point 7); access points are
-- setting 1
abbrev pub sizes_of : Book → List ℕ
sizes_of b = settings_of b 1

-- one figure of a year of each operator
abbrev pub figures_of : Book → ℕ → ℕ → List ℕ
figures_of b year figure = each (λ (operator : ℕ). figure_of b operator year figure)

-- how many of the first n pass a test
unfoldable pub count : ℕ → (ℕ → Bool) → ℕ
count zero test = 0
count (suc n) test = count n test + cond (test n) 1 0

-- whether any of the first n passes a test
unfoldable pub any : ℕ → (ℕ → Bool) → Bool
any zero test = false
any (suc n) test = any n test || test n
