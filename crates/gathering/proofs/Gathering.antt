-- Pools, points and totals gathered one number after the other.
-- Assumes nothing.
use mathlib.Core.Path.{◌≡◌, refl, sym, ◌∙◌, ap}
use mathlib.Core.Bool.{Bool, true, false, cond}
use mathlib.Core.List.{List}
use Prim.Native.Nat.{ℕ, zero, suc, ◌+◌, ◌*◌, ◌-◌, ◌^◌, ◌≤◌, ◌<◌}
use native.Mathlib.Nat.{le_trans, mul-le-mul}
use native.Mathlib.Numerals.{add-one}
use native.Mathlib.Omega.{arith}
use native.Mathlib.Decide.{dec_lt}
use lib.Bits.{bit_and, and_le_r}
use lib.Count.{ones-le}
use lib.ListN.{length, get_or, take, length-set, get_or-eq_default, replicate}
use lib.Seq.{take-suc-set, take-paste, length-paste, take_all}
use Rattle.calls.specs.Limits.{indicator_count}
use Rattle.values.proofs.Numbered.{of-numbered, kind-numbered}
use Rattle.book.specs.declared.Book.{Book}
use Rattle.apportion.specs.Sum.{sum}
use Rattle.apportion.specs.Share.{share}
use Rattle.apportion.proofs.Sums.{element-le}
use Rattle.apportion.proofs.Shared.{shared}
use Rattle.values.specs.Operators.{table, each}
use Rattle.calls.specs.declared.Kind.{Kind}
use Rattle.calls.specs.declared.Kind.TheVariants.{Electricity, Gas}
use Rattle.calls.specs.Indicators.{Indicator, electricity, indicators_of, takes_mark}
use Rattle.calls.proofs.KindLaws.{kinds-opened}
use Rattle.values.specs.Indicator.{numbered, numbered_in, reliable_mask, pool}
use Rattle.indicators.specs.Points.{points, all_points, pool_numbered, points_numbered, pools_of_all, rows, points_of_all, point_places}
use Rattle.values.proofs.Scores.{over-le}
use Rattle.indicators.proofs.NumberLaws.{numbered-length}
use Rattle.gathering.specs.declared.Gathered.{Gathered}
use Rattle.gathering.specs.Steps.{OneGathered, AllGathered}
use Rattle.values.specs.Bounds.{points_most, pool_most}
use Rattle.values.proofs.Tables.{length-each, each_at, each_same}

-- no share passes the total
pub share-le : (T : ℕ) (list sizes : List ℕ) (place : ℕ) → get_or (share T list sizes) place 0 ≤ T
share-le T list sizes place = go (dec_lt 0 (sum list)) (dec_lt place (length list))
  where
    go : Dec (0 < sum list) → Dec (place < length list) → get_or (share T list sizes) place 0 ≤ T
    go (yes some) inside = omega (arith, element-le (share T list sizes) place, (shared T list sizes).whole some)
    go (no none) (yes inside) =
        omega (arith, (shared T list sizes).none place inside (omega (arith, element-le list place, none)))
    go (no none) (no outside) =
        let past : length (share T list sizes) ≤ place = omega (arith, (shared T list sizes).long, outside) in
        rw (get_or-eq_default (share T list sizes) 0 past) (omega arith)

points-most : (number : ℕ) → number < indicator_count → (numbered number).points ≤ points_most
unfolding electricity
points-most = of-numbered (λ number indicator. indicator.points ≤ points_most) (omega arith, (omega arith, (omega arith, (omega arith, (omega arith, (omega arith, tt))))))

pub pool-le : (b : Book) (number : ℕ) → number < indicator_count → pool b (numbered number) ≤ pool_most
unfolding pool reliable_mask
pool-le b number lt =
    let mask : ℕ = bit_and b.joined (65535 - get_or b.marks (numbered number).number 0) in
    let small : mask < 2 ^ 16 = omega (arith, and_le_r b.joined (65535 - get_or b.marks (numbered number).number 0)) in
    let product = mul-le-mul (points-most number lt) (ones-le 16 mask small) in
    le_trans (over-le _ _) (omega (arith, product))

pub point-le : (b : Book) (number : ℕ) → number < indicator_count → (operator : ℕ) → get_or (points b (numbered number)) operator 0 ≤ pool_most
unfolding points
point-le b number lt operator = le_trans (share-le _ _ _ operator) (pool-le b number lt)

-- the noughts of a number that a kind has no indicator of
zeros : (n k : ℕ) → get_or (replicate n 0) k 0 ≤ 0
zeros zero k = omega arith
zeros (suc n) zero = omega arith
zeros (suc n) (suc k) = zeros n k

-- ---- by number
module _ (b : Book) (kind : Kind) (number : ℕ) (lt : number < indicator_count) where
  module _ (t : Bool) (taken : takes_mark (indicators_of kind) number ≡ t) where
    pub points-of-kind : points_numbered b (indicators_of kind) number ≡ cond t (points b (numbered number)) (replicate 16 0)
    unfolding points_numbered
    points-of-kind = rw taken (go t taken)
      where
        go : (u : Bool) → takes_mark (indicators_of kind) number ≡ u
            → cond u (points b (numbered_in (indicators_of kind) number)) (replicate 16 0) ≡ cond u (points b (numbered number)) (replicate 16 0)
        go true has = ap (points b) (kind-numbered kind number lt has)
        go false has = refl

    pub pool-of-kind : pool_numbered b (indicators_of kind) number ≡ cond t (pool b (numbered number)) 0
    unfolding pool_numbered
    pool-of-kind = rw taken (go t taken)
      where
        go : (u : Bool) → takes_mark (indicators_of kind) number ≡ u → cond u (pool b (numbered_in (indicators_of kind) number)) 0 ≡ cond u (pool b (numbered number)) 0
        go true has = ap (pool b) (kind-numbered kind number lt has)
        go false has = refl

  pub numbered-le : (operator : ℕ) → get_or (points_numbered b (indicators_of kind) number) operator 0 ≤ pool_most
  numbered-le operator = rw (points-of-kind (takes_mark (indicators_of kind) number) refl) (go (takes_mark (indicators_of kind) number))
    where
      go : (t : Bool) → get_or (cond t (points b (numbered number)) (replicate 16 0)) operator 0 ≤ pool_most
      go true = point-le b number lt operator
      go false = omega (arith, zeros 16 operator)

-- an operator's points at the numbers below n
unfoldable pub total_below : Book → List Indicator → ℕ → ℕ → ℕ
total_below b indicators zero operator = 0
total_below b indicators (suc n) operator = total_below b indicators n operator + get_or (points_numbered b indicators n) operator 0

-- at all numbers they are those of the kind's indicators
total-of-kind : (b : Book) (kind : Kind) (operator : ℕ) → total_below b (indicators_of kind) indicator_count operator ≡ all_points b (indicators_of kind) operator
unfolding total_below points_numbered numbered_in all_points kinds-opened
total-of-kind b Electricity operator = omega arith
total-of-kind b Gas operator = omega (arith, zeros 16 operator)

-- what has been gathered at the numbers below n
pub record Gathers (b : Book) (indicators : List Indicator) (n : ℕ) (g : Gathered) : Type 0 where
  pub pools_long : length g.pools ≡ indicator_count
  pub pools_so_far : take n g.pools ≡ table n (pool_numbered b indicators)
  pub points_long : length g.points ≡ point_places
  pub points_so_far : take (16 * n) g.points ≡ rows n (points_numbered b indicators)
  pub totals_are : g.totals ≡ each (total_below b indicators n)
  pub totals_most : (k : ℕ) → get_or g.totals k 0 ≤ n * pool_most

-- two lists added, operator by operator
abbrev added : List ℕ → List ℕ → List ℕ
added list other = each (λ (k : ℕ). get_or list k 0 + get_or other k 0)

added-le : (list other : List ℕ) (most more : ℕ) → ((k : ℕ) → get_or list k 0 ≤ most) → ((k : ℕ) → get_or other k 0 ≤ more) → (k : ℕ) → get_or (added list other) k 0 ≤ most + more
added-le list other most more first second k = go (dec_lt k 16)
  where
    go : Dec (k < 16) → get_or (each (λ (operator : ℕ). get_or list operator 0 + get_or other operator 0)) k 0 ≤ most + more
    go (yes inside) = rw (each_at (λ (operator : ℕ). get_or list operator 0 + get_or other operator 0) k inside) (omega (arith, first k, second k))
    go (no outside) =
        let past : length (each (λ (operator : ℕ). get_or list operator 0 + get_or other operator 0)) ≤ k = omega (arith, length-each (λ (operator : ℕ). get_or list operator 0 + get_or other operator 0), outside) in
        rw (get_or-eq_default (each (λ (operator : ℕ). get_or list operator 0 + get_or other operator 0)) 0 past) (omega arith)

module _ (b : Book) (kind : Kind) (n : ℕ) (g more : Gathered) (lt : n < indicator_count) (so_far : Gathers b (indicators_of kind) n g) where
  abbrev here : List ℕ
  here = points_numbered b (indicators_of kind) n

  totals-more : added g.totals here ≡ each (total_below b (indicators_of kind) (n + 1))
  unfolding total_below
  totals-more = each_same _ _ (λ k lk. rw (add-one, so_far.totals_are, each_at (total_below b (indicators_of kind) n) k lk) refl)

  pub gathers-more : OneGathered b (indicators_of kind) n g more → Gathers b (indicators_of kind) (n + 1) more
  unfolding table rows
  gathers-more one =
      let sixteen : length here ≡ 16 = numbered-length b (indicators_of kind) n in
      let room : 16 * n + 16 ≤ length g.points = omega (arith, so_far.points_long) in
      record {
        pools_long = ap length one.pools_are ∙ length-set g.pools n _ ∙ so_far.pools_long;
        pools_so_far = rw (add-one, one.pools_are, take-suc-set g.pools n _ (omega (arith, so_far.pools_long)), so_far.pools_so_far) refl;
        points_long =
            ap length one.points_are
            ∙ length-paste g.points (16 * n) here 16 room (omega (arith, sixteen))
            ∙ so_far.points_long;
        points_so_far =
            let shifted : 16 * (n + 1) ≡ 16 * n + 16 = omega arith in
            rw (shifted, one.points_are)
            (take-paste g.points (16 * n) here 16 (omega (arith, room)) (omega (arith, sixteen))
            ∙ rw (take_all 16 here (omega (arith, sixteen)), so_far.points_so_far, add-one) refl);
        totals_are = one.totals_are ∙ totals-more;
        totals_most = λ k.
            rw one.totals_are (omega (arith, added-le g.totals here (n * pool_most) pool_most so_far.totals_most (numbered-le b kind n lt) k));
      }

pub gathers-none : (b : Book) (indicators : List Indicator)
    → Gathers b indicators 0 (record { pools = replicate indicator_count 0; points = replicate point_places 0; totals = replicate 16 0 })
unfolding table rows total_below each
gathers-none b indicators =
    record {
      pools_long = refl;
      pools_so_far = refl;
      points_long = refl;
      points_so_far = refl;
      totals_are = refl;
      totals_most = λ k. zeros 16 k;
    }

pub gathers-all : (b : Book) (kind : Kind) (g : Gathered) → Gathers b (indicators_of kind) indicator_count g → AllGathered b (indicators_of kind) g
unfolding pools_of_all points_of_all
gathers-all b kind g so_far =
    record {
      pools_are = sym (take_all indicator_count g.pools (omega (arith, so_far.pools_long))) ∙ so_far.pools_so_far;
      points_are = sym (take_all point_places g.points (omega (arith, so_far.points_long))) ∙ so_far.points_so_far;
      totals_are = so_far.totals_are ∙ each_same _ _ (λ k lk. total-of-kind b kind k);
      totals_most = λ k. omega (arith, so_far.totals_most k);
    }
