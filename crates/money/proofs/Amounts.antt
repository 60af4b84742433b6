-- Bounds of the amounts that are shared, cut and balanced.
-- Assumes nothing.
use mathlib.Core.Path.{◌≡◌, refl}
use mathlib.Core.Bool.{true}
use mathlib.Core.List.{List}
use Prim.Native.Nat.{ℕ, ◌*◌, ◌/◌, ◌^◌, ◌≤◌, ◌<◌}
use native.Mathlib.Omega.{arith}
use native.Mathlib.Nat.{le_trans, mul-le-mul}
use lib.ListN.{length, get_or}
use Rattle.book.specs.declared.Book.{Book}
use Rattle.book.specs.Book.{setting_of, within_limits}
use Rattle.apportion.specs.Sum.{sum}
use Rattle.apportion.proofs.Sums.{sum_bound}
use Rattle.values.specs.Operators.{each, settings_of}
use Rattle.calls.specs.Indicators.{Indicator}
use Rattle.indicators.specs.Points.{all_points}
use Rattle.money.specs.Money.{pot, limits, capped, balanced}
use Rattle.values.proofs.Tables.{length-each, each_at, each_same}
use Rattle.money.proofs.InRange.{access-at, income-at, incomes_most, pot-le, limit-le}
use Rattle.values.proofs.InRange.{pot-rate-le, cap-rate-le}
use Rattle.calls.specs.Limits.{operators}
use Rattle.values.specs.Bounds.{access_limit, total_most, pot_most, limit_most}
use Rattle.money.proofs.BalanceLaws.{capped-length, capped-most, balanced-within}

-- sixteen numbers, each with a bound
pub sixteen-le : (list : List ℕ) (bound : ℕ) → length list ≡ 16 → ((k : ℕ) → k < 16 → get_or list k 0 ≤ bound) → sum list ≤ 16 * bound
sixteen-le list bound long below = rw long at (sum_bound list bound (λ k lt. below k (rw (← long) lt)))

pub each-sum-le : (f : ℕ → ℕ) (bound : ℕ) → ((k : ℕ) → k < 16 → f k ≤ bound) → sum (each f) ≤ 16 * bound
each-sum-le f bound below = sixteen-le (each f) bound (length-each f) (λ k lt. rw (each_at f k lt) (below k lt))

-- cut amounts, and balanced ones
module _ (more less limit : List ℕ) (bounded : (k : ℕ) → k < 16 → get_or limit k 0 ≤ limit_most) where
  pub cut-le : (k : ℕ) → k < 16 → get_or (capped more less limit) k 0 ≤ limit_most
  cut-le k lt = le_trans (capped-most more less limit k lt) (bounded k lt)

  pub cut-sum-le : sum (capped more less limit) ≤ operators * limit_most
  cut-sum-le = sixteen-le (capped more less limit) limit_most (capped-length more less limit) cut-le

  pub balanced-le : (other sizes : List ℕ) (k : ℕ) → k < 16 → get_or (balanced (capped more less limit) other sizes) k 0 ≤ limit_most
  balanced-le other sizes k lt = le_trans (balanced-within (capped more less limit) other sizes k (rw (capped-length more less limit) lt)) (cut-le k lt)

-- the sums of both sides that are cut stay small
pub cut-sums-small : (received paid limits : List ℕ) → ((k : ℕ) → k < 16 → get_or limits k 0 ≤ limit_most)
    → (sum (capped received paid limits) < 2 ^ 62) × (sum (capped paid received limits) < 2 ^ 62)
cut-sums-small received paid limits small = (omega (arith, cut-sum-le received paid limits small), omega (arith, cut-sum-le paid received limits small))

-- the pot and the limits of a book in range
pub pot_bounded : (b : Book) → within_limits b ≡ true → pot b ≤ pot_most
unfolding pot
pot_bounded b ranged = pot-le b.pot_rate (settings_of b 2) (pot-rate-le b ranged) (incomes_most b ranged) (length-each _)

pub limit-most : (b : Book) → within_limits b ≡ true → (k : ℕ) → k < 16 → get_or (limits b) k 0 ≤ limit_most
unfolding limits
limit-most b ranged k lt =
    rw (each_at (λ (operator : ℕ). b.cap_rate * setting_of b operator 2 / 1000000) k lt)
    (rw (income-at b k lt) at (limit-le b.cap_rate (settings_of b 2) (cap-rate-le b ranged) (incomes_most b ranged) k))

-- the weights of returns, as the code makes them
pub weights-same : (b : Book) (indicators : List Indicator) (access totals : List ℕ) → access ≡ settings_of b 1 → totals ≡ each (all_points b indicators)
    → each (λ (operator : ℕ). get_or access operator 0 * get_or totals operator 0) ≡ each (λ (operator : ℕ). setting_of b operator 1 * all_points b indicators operator)
weights-same b indicators access totals ea et =
    each_same _ _ (λ k lt. rw (ea, et, access-at b k lt, each_at (all_points b indicators) k lt) refl)

pub weights-sum : (access totals : List ℕ) → ((k : ℕ) → k < 16 → get_or access k 0 ≤ access_limit) → ((k : ℕ) → k < 16 → get_or totals k 0 ≤ total_most)
    → sum (each (λ (operator : ℕ). get_or access operator 0 * get_or totals operator 0)) ≤ operators * (access_limit * total_most)
weights-sum access totals la lt = each-sum-le (λ (operator : ℕ). get_or access operator 0 * get_or totals operator 0) (access_limit * total_most) (λ k l. mul-le-mul (la k l) (lt k l))
