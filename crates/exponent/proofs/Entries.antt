-- The table's rule: a list that is made by the recurrence holds the weights.
-- Assumes nothing.
use mathlib.Core.Path.{◌≡◌, refl, ◌∙◌, sym, ap}
use mathlib.Core.List.{List, [], ◌∷◌}
use Prim.Native.Nat.{ℕ, zero, suc, ◌+◌, ◌*◌, ◌/◌, ◌<◌}
use native.Mathlib.Nat.{add-zero, zero-add, add-suc, suc-add, le_of_suc-le-suc, not-suc-le-zero}
use lib.ListN.{get_or}
use Rattle.exponent.specs.Weight.{weight_of}

-- 999/1000 of a weight, rounded down
abbrev pub next : ℕ → ℕ
next weight = weight * 999 / 1000

-- n weights, made one from the other. The proof of `weight` has the whole table compared with these, once.
abbrev pub recurrence : ℕ → ℕ → List ℕ
recurrence weight zero = []
recurrence weight (suc n) = weight ∷ recurrence (next weight) n

from : (i n k : ℕ) → k < n → get_or (recurrence (weight_of i) n) k 0 ≡ weight_of (i + k)
unfolding weight_of
from i zero k lt = absurd (not-suc-le-zero lt)
from i (suc n) zero lt = rw add-zero refl
from i (suc n) (suc k) lt = from (suc i) n k (le_of_suc-le-suc lt) ∙ ap weight_of (suc-add i k ∙ sym (add-suc i k))

pub entry_at : (n k : ℕ) → k < n → get_or (recurrence (weight_of 0) n) k 0 ≡ weight_of k
entry_at n k lt = rw zero-add at (from 0 n k lt)
