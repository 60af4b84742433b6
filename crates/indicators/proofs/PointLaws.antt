-- The points of every indicator are as specs/Laws.antt says; and a pool is above 0 where somebody takes part.
-- Assumes nothing.
use Prim.Native.Nat.{ℕ, ◌+◌, ◌*◌, ◌^◌, ◌≤◌, ◌<◌}
use mathlib.Core.Path.{◌≡◌, refl, sym, ap, ◌∙◌}
use mathlib.Core.Bool.{Bool, true, false, not, ◌&&◌}
use mathlib.Core.List.{List}
use native.Mathlib.Nat.{mul-zero, mul_comm, mul-le-mul_left, mul-le-mul, lt_of_le_of_lt, le-div_iff_mul-le}
use native.Mathlib.Omega.{arith}
use native.Mathlib.Decide.{dec_lt}
use lib.Bits.{and_le_l}
use lib.Count.{ones, ones-le}
use lib.ListN.{length, get_or}
use Rattle.calls.specs.Masks.{has}
use Rattle.calls.proofs.Flags.{and_left}
use Rattle.calls.proofs.MaskLaws.{and-has}
use Rattle.book.specs.declared.Book.{Book}
use Rattle.book.specs.Book.{is_joined, is_marked, within_limits}
use Rattle.book.proofs.Bounds.{bounded}
use Rattle.apportion.specs.Sum.{sum}
use Rattle.apportion.specs.Share.{share}
use Rattle.apportion.specs.Laws.{Shared}
use Rattle.apportion.proofs.Sums.{element-le}
use Rattle.apportion.proofs.Shared.{shared}
use Rattle.values.specs.Operators.{count, sizes_of}
use Rattle.calls.specs.Indicators.{Indicator}
use Rattle.values.specs.Indicator.{reliable_mask, pool, scores}
use Rattle.indicators.specs.Points.{exponent_weight, is_better, is_levelled, weights, points}
use Rattle.indicators.specs.Laws.{PointsMadeUp}
use Rattle.values.proofs.InRange.{mark-set-small}
use Rattle.values.proofs.Tables.{sum-none}
use Rattle.values.proofs.Scores.{over-some}
use Rattle.values.proofs.CountLaws.{count-positive, count-mono, some-passes}
use Rattle.indicators.proofs.OnesLaws.{ones-counted, complement}
use Rattle.indicators.proofs.WeightLaws.{together, over-most, one-better, better-reliable, weights-length, weight-reliable, weight-none, weight-better}

module _ (b : Book) (indicator : Indicator) where
  -- who takes part has joined
  pub reliable-joined : (operator : ℕ) → has (reliable_mask b indicator) operator ≡ true → is_joined b operator ≡ true
  unfolding reliable_mask is_joined
  reliable-joined operator reliable = and_left _ _ (sym (and-has _ _ operator) ∙ reliable)

  abbrev weighed : List ℕ
  weighed = weights indicator.measure (reliable_mask b indicator) (scores b indicator)

  -- the points are shares of the pool
  points-shared : Shared (pool b indicator) weighed (sizes_of b)
  points-shared = shared (pool b indicator) weighed (sizes_of b)

  pub points-length : length (points b indicator) ≡ 16
  unfolding points
  points-length = points-shared.long ∙ weights-length _ _ _

  place : (operator : ℕ) → operator < 16 → operator < length weighed
  place operator lt = rw weights-length lt

  pub points_none : (operator : ℕ) → operator < 16 → has (reliable_mask b indicator) operator ≡ false → get_or (points b indicator) operator 0 ≡ 0
  unfolding points
  points_none operator lt marked = points-shared.none operator (place operator lt) (weight-none _ _ _ operator lt marked)

  -- an operator with points takes part
  pub points-reliable : (operator : ℕ) → operator < 16 → 0 < get_or (points b indicator) operator 0 → has (reliable_mask b indicator) operator ≡ true
  points-reliable operator lt pos = go (has (reliable_mask b indicator) operator) refl
    where
      go : (t : Bool) → has (reliable_mask b indicator) operator ≡ t → has (reliable_mask b indicator) operator ≡ true
      go true reliable = reliable
      go false marked = absurd (omega (arith, pos, points_none operator lt marked))

  module _ (ranged : within_limits b ≡ true) where
    -- "those without a mark at this indicator"
    pub reliable_exactly : (operator : ℕ) → operator < 16 → has (reliable_mask b indicator) operator ≡ is_joined b operator && not (is_marked b operator indicator.number)
    unfolding reliable_mask is_joined is_marked
    reliable_exactly operator lt =
        and-has _ _ operator ∙ ap (λ (t : Bool). has b.joined operator && t) (complement 16 _ operator (mark-set-small b ranged indicator.number) lt)

    small : b.joined < 2 ^ 16
    small = (bounded b ranged).joined

    pub joined_counted : ones b.joined ≡ count 16 (is_joined b)
    unfolding is_joined
    joined_counted = ones-counted 16 b.joined small

    pub reliable-small : reliable_mask b indicator < 2 ^ 16
    unfolding reliable_mask
    reliable-small = lt_of_le_of_lt (and_le_l b.joined _) small

    pub reliable_counted : ones (reliable_mask b indicator) ≡ count 16 (has (reliable_mask b indicator))
    reliable_counted = ones-counted 16 (reliable_mask b indicator) reliable-small

    pub joined-few : ones b.joined ≤ 16
    joined-few = ones-le 16 b.joined small

    pub reliable-few : ones (reliable_mask b indicator) ≤ ones b.joined
    reliable-few = rw (reliable_counted, joined_counted) (count-mono 16 (has (reliable_mask b indicator)) (is_joined b) reliable-joined)

    -- no pool passes three years of its points
    pub pool-most : pool b indicator ≤ 300 * indicator.points
    unfolding pool
    pool-most =
        over-most (300 * indicator.points * ones (reliable_mask b indicator)) (ones b.joined) (300 * indicator.points)
        (rw (mul_comm (ones b.joined) (300 * indicator.points)) (mul-le-mul_left (300 * indicator.points) reliable-few))

    -- a pool is above 0 where points are to be had and somebody takes part
    pub pool-above : 0 < indicator.points → (operator : ℕ) → operator < 16 → has (reliable_mask b indicator) operator ≡ true → 0 < pool b indicator
    unfolding pool
    pool-above worth operator lt reliable =
        let m : 0 < ones (reliable_mask b indicator) = rw reliable_counted (count-positive 16 _ operator lt reliable) in
        let n : 0 < ones b.joined = rw joined_counted (count-positive 16 _ operator lt (reliable-joined operator reliable)) in
        rw (over-some _ (ones b.joined) n) ((le-div_iff_mul-le n).1 (omega (arith, joined-few, mul-le-mul worth m)))

    -- nobody takes part: the pool is 0
    pub pool-none : ones (reliable_mask b indicator) ≡ 0 → pool b indicator ≡ 0
    unfolding pool
    pool-none none =
        let dividend : 300 * indicator.points * ones (reliable_mask b indicator) ≡ 0 = rw none (mul-zero _) in
        omega (arith, over-most (300 * indicator.points * ones (reliable_mask b indicator)) (ones b.joined) 0 (omega (arith, dividend)))

    nobody-weighs : ((i : ℕ) → get_or weighed i 0 ≡ 0) → ones (reliable_mask b indicator) ≡ 0
    nobody-weighs noughts = rw reliable_counted (go (dec_lt 0 (count 16 (has (reliable_mask b indicator)))))
      where
        go : Dec (0 < count 16 (has (reliable_mask b indicator))) → count 16 (has (reliable_mask b indicator)) ≡ 0
        go (yes some) =
            let found = some-passes 16 (has (reliable_mask b indicator)) some in
            absurd (omega (arith, noughts found.0, weight-better indicator.measure (reliable_mask b indicator) (scores b indicator) found.0 found.1 found.2))
        go (no none) = omega (arith, none)

    whole : sum (points b indicator) ≡ pool b indicator
    unfolding points
    whole = go (dec_lt 0 (sum weighed))
      where
        go : Dec (0 < sum weighed) → sum (share (pool b indicator) weighed (sizes_of b)) ≡ pool b indicator
        go (yes pos) = points-shared.whole pos
        go (no none) =
            let noughts : (i : ℕ) → get_or weighed i 0 ≡ 0 = λ i. omega (arith, none, element-le weighed i) in
            let nobody : ones (reliable_mask b indicator) ≡ 0 = nobody-weighs noughts in
            let shares : sum (share (pool b indicator) weighed (sizes_of b)) ≡ 0 =
            sum-none _ (λ i lt. points-shared.none i (rw points-shared.long at lt) (noughts i)) in
            shares ∙ sym (pool-none nobody)

    -- no operator's points pass three years of the indicator's
    pub points-most : (operator : ℕ) → get_or (points b indicator) operator 0 ≤ 300 * indicator.points
    points-most operator = omega (arith, element-le (points b indicator) operator, whole, pool-most)

    abbrev better : ℕ → Bool
    better = is_better (reliable_mask b indicator) (scores b indicator)

    better_alike : is_levelled indicator.measure ≡ true → (operator other : ℕ) → operator < 16 → other < 16
        → better operator ≡ true → better other ≡ true
        → get_or (points b indicator) operator 0 ≤ get_or (points b indicator) other 0 + 1
    unfolding points
    better_alike levels operator other lt lt' is is' =
        points-shared.alike operator other (place operator lt) (place other lt') (better-weight operator lt is ∙ sym (better-weight other lt' is'))
      where
        better-weight : (k : ℕ) → k < 16 → better k ≡ true → get_or weighed k 0 ≡ together better (exponent_weight (scores b indicator))
        better-weight k inside is =
            weight-reliable _ _ _ k inside (better-reliable _ _ k is) ∙ one-better _ _ _ levels k inside is

pub points_made_up : (b : Book) (indicator : Indicator) → within_limits b ≡ true → PointsMadeUp b indicator (pool b indicator) (points b indicator)
unfolding pool
points_made_up b indicator ranged =
    record {
      joined_counted = joined_counted b indicator ranged;
      reliable_counted = reliable_counted b indicator ranged;
      reliable_exactly = reliable_exactly b indicator ranged;
      pool_counted = rw (reliable_counted b indicator ranged, joined_counted b indicator ranged) refl;
      whole = whole b indicator ranged;
      others_none = points_none b indicator;
      better_alike = better_alike b indicator ranged;
    }
