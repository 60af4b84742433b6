-- Pools and points by the indicators' numbers, over any list: what stands at a number, and that it adds up.
-- Assumes nothing.
use Prim.Native.Nat.{ℕ, zero, suc, ◌*◌, ◌<◌}
use mathlib.Core.Path.{◌≡◌, refl, ◌∙◌}
use mathlib.Core.Bool.{Bool, true, false, cond}
use mathlib.Core.List.{List, ◌++◌}
use native.Mathlib.Omega.{arith}
use native.Mathlib.Decide.{ℕ_discrete}
use lib.ListN.{length, get_or, take, drop, replicate, length-append, length-drop, get_or-replicate}
use lib.Seq.{take_all, take-append-le, drop-append-le, drop_at}
use Rattle.apportion.specs.Sum.{sum}
use Rattle.calls.specs.Limits.{operators, indicator_count}
use Rattle.calls.specs.Indicators.{Indicator, takes_mark}
use Rattle.book.specs.declared.Book.{Book}
use Rattle.book.specs.Book.{within_limits}
use Rattle.values.specs.Indicator.{numbered_in, pool}
use Rattle.values.proofs.Tables.{table_at}
use Rattle.indicators.specs.Points.{points, pool_numbered, points_numbered, pools_of_all, rows, points_of_all}
use Rattle.indicators.proofs.PointLaws.{points-length, points_made_up}

module _ (f : ℕ → List ℕ) (sixteen : (n : ℕ) → length (f n) ≡ operators) where
  rows-length : (n : ℕ) → length (rows n f) ≡ operators * n
  unfolding rows
  rows-length zero = refl
  rows-length (suc n) = rw length-append (omega (arith, rows-length n, sixteen n))

  -- a row stands where sixteen times its number of places come before it
  rows_at : (n k : ℕ) → k < n → take operators (drop (operators * k) (rows n f)) ≡ f k
  unfolding rows
  rows_at zero k lt = absurd (omega arith)
  rows_at (suc n) k lt = go (ℕ_discrete k n) (rows_at n k)
    where
      go : Dec (k ≡ n) → (k < n → take operators (drop (operators * k) (rows n f)) ≡ f k) → take operators (drop (operators * k) (rows n f ++ f n)) ≡ f k
      go (yes last) before =
          rw (last, drop_at (rows n f) (f n) (operators * n) (rows-length n)) (take_all operators (f n) (omega (arith, sixteen n)))
      go (no other) before =
          let less : k < n = omega (arith, other) in
          rw (drop-append-le (operators * k) (rows n f) (f n) (omega (arith, rows-length n)))
          (take-append-le operators (drop (operators * k) (rows n f)) (f n) (omega (arith, length-drop (operators * k) (rows n f), rows-length n)) ∙ before less)

module _ (b : Book) (indicators : List Indicator) where
  pub numbered-length : (number : ℕ) → length (points_numbered b indicators number) ≡ operators
  unfolding points_numbered
  numbered-length number = go (takes_mark indicators number)
    where
      go : (t : Bool) → length (cond t (points b (numbered_in indicators number)) (replicate operators 0)) ≡ operators
      go true = points-length b (numbered_in indicators number)
      go false = refl

  pub pool-at : (number : ℕ) → number < indicator_count → get_or (pools_of_all b indicators) number 0 ≡ pool_numbered b indicators number
  unfolding pools_of_all
  pool-at number lt = table_at (pool_numbered b indicators) indicator_count number 0 lt

  pub points-at : (number : ℕ) → number < indicator_count → take operators (drop (operators * number) (points_of_all b indicators)) ≡ points_numbered b indicators number
  unfolding points_of_all
  points-at number lt = rows_at (points_numbered b indicators) numbered-length indicator_count number lt

  -- of an indicator of the list they are its own
  pub taken-pool : (number : ℕ) → takes_mark indicators number ≡ true → pool_numbered b indicators number ≡ pool b (numbered_in indicators number)
  unfolding pool_numbered
  taken-pool number taken = rw taken refl

  pub taken-points : (number : ℕ) → takes_mark indicators number ≡ true → points_numbered b indicators number ≡ points b (numbered_in indicators number)
  unfolding points_numbered
  taken-points number taken = rw taken refl

  -- points add up to the pool at every number
  pub numbered-whole : within_limits b ≡ true → (number : ℕ) → sum (points_numbered b indicators number) ≡ pool_numbered b indicators number
  unfolding points_numbered pool_numbered sum
  numbered-whole within number = go (takes_mark indicators number)
    where
      go : (t : Bool) → sum (cond t (points b (numbered_in indicators number)) (replicate operators 0)) ≡ cond t (pool b (numbered_in indicators number)) 0
      go true = (points_made_up b (numbered_in indicators number) within).whole
      go false = refl

  -- an operator that gets no points of any indicator has none at any number
  pub numbered-none : (operator : ℕ) → operator < operators → ((i : Indicator) → get_or (points b i) operator 0 ≡ 0) → (number : ℕ)
      → get_or (points_numbered b indicators number) operator 0 ≡ 0
  unfolding points_numbered
  numbered-none operator lt none number = go (takes_mark indicators number)
    where
      go : (t : Bool) → get_or (cond t (points b (numbered_in indicators number)) (replicate operators 0)) operator 0 ≡ 0
      go true = none (numbered_in indicators number)
      go false = get_or-replicate operators operator 0 0 lt
