-- Access points and incomes by operator; bounds of incomes, the pot and limits.
-- Assumes nothing.
use Prim.Native.Nat.{ℕ, ◌*◌, ◌/◌, ◌≤◌, ◌<◌}
use mathlib.Core.Path.{◌≡◌}
use mathlib.Core.Bool.{true}
use native.Mathlib.Nat.{mul-le-mul}
use native.Mathlib.Omega.{arith}
use lib.ListN.{length, get_or}
use Rattle.calls.specs.Limits.{operators, rate_limit}
use mathlib.Core.List.{List}
use Rattle.book.specs.declared.Book.{Book}
use Rattle.book.specs.Book.{setting_of, within_limits}
use Rattle.apportion.specs.Sum.{sum}
use Rattle.apportion.proofs.Sums.{sum_bound}
use Rattle.values.specs.Bounds.{access_limit, income_limit, pot_most, limit_most}
use Rattle.values.specs.Operators.{settings_of}
use Rattle.values.proofs.InRange.{access-le, income-le}
use Rattle.values.proofs.Tables.{each_at, each-le}

pub access-at : (b : Book) (operator : ℕ) → operator < 16 → get_or (settings_of b 1) operator 0 ≡ setting_of b operator 1
access-at b operator lt = each_at _ operator lt

pub income-at : (b : Book) (operator : ℕ) → operator < 16 → get_or (settings_of b 2) operator 0 ≡ setting_of b operator 2
income-at b operator lt = each_at _ operator lt

-- money from a rate and incomes within their limits
module _ (rate : ℕ) (incomes : List ℕ) (small : rate ≤ rate_limit) (below : (k : ℕ) → get_or incomes k 0 ≤ income_limit) where
  module _ (long : length incomes ≡ operators) where
    pub incomes-le : sum incomes ≤ operators * income_limit
    incomes-le = rw long at (sum_bound incomes income_limit (λ k lt. below k))

    pub pot-product-le : rate * sum incomes ≤ rate_limit * (operators * income_limit)
    pot-product-le = mul-le-mul small incomes-le

    pub pot-le : rate * sum incomes / 1000000 ≤ pot_most
    pot-le = omega (arith, pot-product-le)

  pub limit-product-le : (k : ℕ) → rate * get_or incomes k 0 ≤ rate_limit * income_limit
  limit-product-le k = mul-le-mul small (below k)

  pub limit-le : (k : ℕ) → rate * get_or incomes k 0 / 1000000 ≤ limit_most
  limit-le k = omega (arith, limit-product-le k)

-- columns of a book in range
pub access_most : (b : Book) → within_limits b ≡ true → (k : ℕ) → get_or (settings_of b 1) k 0 ≤ access_limit
access_most b ranged = each-le _ _ (λ k lt. access-le b ranged k lt)

pub incomes_most : (b : Book) → within_limits b ≡ true → (k : ℕ) → get_or (settings_of b 2) k 0 ≤ income_limit
incomes_most b ranged = each-le _ _ (λ k lt. income-le b ranged k lt)
