-- What gathering gives: the points of one indicator more, and of all.
-- Assumes nothing.
use Rattle.std.specs.Prelude.{ℕ, ◌+◌, ◌*◌, ◌≤◌, ◌≡◌, List, get_or, set}
use Rattle.std.proofs.Math.Seq.{paste}
use Rattle.calls.specs.Limits.{operators}
use Rattle.book.specs.declared.Book.{Book}
use Rattle.values.specs.Bounds.{total_most}
use Rattle.values.specs.Operators.{each}
use Rattle.calls.specs.Indicators.{Indicator}
use Rattle.indicators.specs.Points.{pool_numbered, points_numbered, pools_of_all, points_of_all, all_points}
use Rattle.gathering.specs.declared.Gathered.{Gathered}

-- g with the indicator of a number put in, of a list of indicators
pub record OneGathered (b : Book) (indicators : List Indicator) (number : ℕ) (g more : Gathered) : Type 0 where
  pub pools_are : more.pools ≡ set g.pools number (pool_numbered b indicators number)
  pub points_are : more.points ≡ paste g.points (operators * number) (points_numbered b indicators number) operators
  pub totals_are : more.totals ≡ each (λ (k : ℕ). get_or g.totals k 0 + get_or (points_numbered b indicators number) k 0)

pub record AllGathered (b : Book) (indicators : List Indicator) (g : Gathered) : Type 0 where
  pub pools_are : g.pools ≡ pools_of_all b indicators
  pub points_are : g.points ≡ points_of_all b indicators
  pub totals_are : g.totals ≡ each (all_points b indicators)
  pub totals_most : (k : ℕ) → get_or g.totals k 0 ≤ total_most
