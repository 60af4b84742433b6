-- What a book in range holds: each value between its limits.
-- Assumes nothing.
use Prim.Native.Nat.{ℕ, ◌^◌, ◌≤◌, ◌<◌}
use mathlib.Core.Path.{◌≡◌}
use mathlib.Core.Bool.{true}
use native.Mathlib.Omega.{arith}
use native.Mathlib.Decide.{dec_lt}
use native.Mathlib.Nat.{le_trans}
use lib.ListN.{length, get_or, get_or-eq_default}
use Rattle.book.specs.declared.Book.{Book}
use Rattle.calls.specs.Limits.{operators, setting_count, indicator_count, setting_limit, figure_limit, rate_limit}
use Rattle.book.specs.Book.{setting_of, figure_of, index_of, within_limits}
use Rattle.book.proofs.Bounds.{most-le, bounded}
use Rattle.values.specs.Bounds.{access_limit, income_limit, Within}

module _ (b : Book) (ranged : within_limits b ≡ true) where
  setting-le : (operator which : ℕ) → operator < operators → which < setting_count → setting_of b operator which ≤ setting_limit which
  unfolding setting_of
  setting-le operator which lo lw = le_trans ((bounded b ranged).settings.within operator which lo lw) (most-le b.joined operator (setting_limit which))

  pub access-le : (operator : ℕ) → operator < operators → setting_of b operator 1 ≤ access_limit
  access-le operator lo = setting-le operator 1 lo (omega arith)

  pub income-le : (operator : ℕ) → operator < operators → setting_of b operator 2 ≤ income_limit
  income-le operator lo = setting-le operator 2 lo (omega arith)

  pub within : Within b
  unfolding figure_of index_of
  within =
      record {
        settings_within = setting-le;
        figures_within = λ operator year figure lo ly lf. le_trans ((bounded b ranged).figures.within operator year figure lo ly lf) (most-le b.joined operator figure_limit);
        indices_within = λ number lt. ((bounded b ranged).indices.within number lt).1;
      }

  -- the marks of any indicator number, there or not, are sixteen bits
  pub mark-set-small : (indicator : ℕ) → get_or b.marks indicator 0 < 2 ^ 16
  mark-set-small indicator = go (dec_lt indicator indicator_count)
    where
      go : Dec (indicator < indicator_count) → get_or b.marks indicator 0 < 2 ^ 16
      go (yes inside) = (bounded b ranged).marks.small indicator inside
      go (no outside) =
          let past : length b.marks ≤ indicator = omega (arith, (bounded b ranged).marks.long, outside) in
          rw (get_or-eq_default b.marks 0 past) (omega arith)

  pub pot-rate-le : b.pot_rate ≤ rate_limit
  pot-rate-le = (bounded b ranged).rates.pot_rate

  pub cap-rate-le : b.cap_rate ≤ rate_limit
  cap-rate-le = (bounded b ranged).rates.cap_rate
