-- The points of an operator, added up one indicator after another.
-- Assumes nothing.
use Prim.Native.Nat.{ℕ, ◌+◌, ◌*◌, ◌^◌, ◌<◌}
use mathlib.Core.Path.{◌≡◌, sym, ap, ◌∙◌}
use mathlib.Core.List.{List, map}
use native.Mathlib.Omega.{arith}
use lib.ListN.{get_or}
use Rattle.std.specs.List as S
use Rattle.std.specs.List.{range_with_len}
use Rattle.std.proofs.lemmas.List.FromFn.{fill_by_all}
use Rattle.calls.specs.Limits.{indicator_count}
use Rattle.apportion.specs.Sum.{sum}
use Rattle.apportion.proofs.Sums.{same_sum, sum_bound, element-le}
use Rattle.values.specs.Operators.{table}
use Rattle.values.proofs.Tables.{length-table, table_at}
use Rattle.settlement.specs.declared.Settlement.{Settlement}
use Rattle.columns.specs.Columns.{points_of_operator}

module _ (points : List ℕ) (operator : ℕ) where
  abbrev pub point_of : ℕ → ℕ
  point_of number = get_or points (16 * number + operator) 0

  in_turn : map point_of (range_with_len 0 6) ≡ table indicator_count point_of
  in_turn = sym (fill_by_all point_of (table 6 point_of) 6 0 (length-table point_of 6) (λ k lt. table_at point_of 6 k 0 lt))

  pub points-most : sum points < 2 ^ 60 → sum (table indicator_count point_of) < 2 ^ 63
  points-most few =
      let most = sum_bound (table 6 point_of) (sum points) (λ k lt. rw (table_at point_of 6 k 0 (rw length-table at lt)) (element-le points (16 * k + operator))) in
      omega (arith, few, length-table point_of 6, rw length-table at most)

  pub few_points : sum points < 2 ^ 60 → S.sum (map point_of (range_with_len 0 6)) < 2 ^ 64
  few_points few = rw (same_sum, in_turn) (omega (arith, points-most few))

pub points-added : (s : Settlement) (operator : ℕ) → S.sum (map (point_of s.points operator) (range_with_len 0 6)) ≡ points_of_operator s operator
unfolding points_of_operator
points-added s operator = same_sum _ ∙ ap sum (in_turn s.points operator)
