-- When a book settles, and that what it is then given is balanced, as specs/Laws.antt says.
-- Assumes nothing.
use Prim.Native.Nat.{ℕ, ◌+◌, ◌<◌}
use mathlib.Core.Path.{◌≡◌, refl, sym, ap, ◌∙◌}
use mathlib.Core.Logic.{◌↔◌}
use mathlib.Core.Bool.{Bool, true, false, not, ◌&&◌, false≢true}
use mathlib.Core.List.{List, [], ◌∷◌}
use native.Mathlib.Nat.{mul-pos}
use native.Mathlib.Omega.{arith}
use lib.Dec.{eqb, lit<}
use lib.ListN.{get_or}
use borrow.Author.Tests.{eqb-false, not-false}
use Rattle.apportion.specs.Sum.{sum}
use Rattle.apportion.specs.Share.{share}
use Rattle.apportion.proofs.Shared.{shared}
use Rattle.calls.specs.Limits.{setting_count}
use Rattle.calls.specs.Answers.{accepted, yes_said, on_answer}
use Rattle.calls.specs.Laws.{rank, place_from, applies, stand_from, First}
use Rattle.calls.proofs.Flags.{and-other}
use Rattle.calls.proofs.First.{first-in-order}
use Rattle.book.specs.declared.Book.{Book}
use Rattle.book.specs.Book.{is_joined, setting_of, within_limits, in_range}
use Rattle.book.proofs.Bounds.{bounded}
use Rattle.book.proofs.TakenLaws.{ranged-within}
use Rattle.values.specs.Operators.{each}
use Rattle.calls.specs.Indicators.{Indicator, electricity, gas, indicators_of, is_network}
use Rattle.calls.specs.declared.Kind.{Kind}
use Rattle.calls.specs.declared.Kind.TheVariants.{Electricity, Gas}
use Rattle.values.specs.Indicator.{reliable_mask, pool}
use Rattle.values.proofs.AnyLaws.{or_left, each-of-none}
use Rattle.values.proofs.Tables.{each-le-sum, some-place}
use Rattle.indicators.specs.Points.{points, all_points}
use Rattle.indicators.proofs.OnesLaws.{some_one}
use Rattle.indicators.proofs.PointLaws.{points_made_up, points-length, points-reliable, reliable-joined, reliable-small, pool-above}
use Rattle.indicators.proofs.NumberLaws.{pool-at, points-at, numbered-whole, numbered-none}
use Rattle.money.specs.Money.{pot, contributions, returns}
use Rattle.readiness.specs.Readiness.{setting_missing, network_missing, all_marked}
use Rattle.settlement.specs.Settlement.{settlement_by, settling_lines, settled_by}
use Rattle.settlement.specs.Laws.{Worth, Settles, points_at, Balanced, Settling}
use Rattle.readiness.proofs.MarkLaws.{marked-none, marked_more}
use Rattle.money.proofs.AdjustmentLaws.{adjustments_cancel, stays_within_limits}
use Rattle.settlement.proofs.UnjoinedLaws.{points-unjoined, contribution-none, return-none, limit-none, adjustment-none}

pub worth-electricity : Worth electricity
unfolding electricity
worth-electricity = (lit< tt, (lit< tt, (lit< tt, (lit< tt, (lit< tt, (lit< tt, tt))))))

pub worth-gas : Worth gas
unfolding gas
worth-gas = (lit< tt, (lit< tt, tt))

pub worth-kind : (kind : Kind) → Worth (indicators_of kind)
worth-kind Electricity = worth-electricity
worth-kind Gas = worth-gas

module _ (b : Book) (indicators : List Indicator) where
  pub first-of-settling : First (settling_lines b indicators) yes_said
  unfolding rank place_from stand_from settling_lines
  first-of-settling = first-in-order yes_said (settling_lines b indicators) refl

  pub settles-exactly : Settles b indicators ↔ ((settled_by b indicators).said ≡ accepted yes_said)
  unfolding settled_by
  settles-exactly = (first-of-settling.answered.1, first-of-settling.answered.0)

  -- a book that settles passes the four tests, and is given its settlement
  module _ (settles : Settles b indicators) where
    settles-ranged : in_range indicators b ≡ true
    unfolding applies settling_lines
    settles-ranged = not-false _ (or_left (not (in_range indicators b)) _ (settles 5))

    pub settles-within : within_limits b ≡ true
    settles-within = ranged-within indicators b settles-ranged

    settles-somebody : eqb b.joined 0 ≡ false
    unfolding applies settling_lines
    settles-somebody = or_left (eqb b.joined 0) _ (settles 10)

    settles-network : network_missing b indicators ≡ false
    unfolding applies settling_lines
    settles-network = or_left (network_missing b indicators) _ (settles 11)

    settles-reliable : all_marked b indicators ≡ false
    unfolding applies settling_lines
    settles-reliable = or_left (all_marked b indicators) _ (settles 12)

    pub settled-so : (settled_by b indicators).settlement ≡ settlement_by b indicators
    unfolding settled_by on_answer
    settled-so = rw (first-of-settling.answered.1 settles) refl

-- a joined operator has access points
joined-access : (b : Book) (indicators : List Indicator) → network_missing b indicators ≡ false → (operator : ℕ) → operator < 16 → is_joined b operator ≡ true → 0 < setting_of b operator 1
unfolding network_missing setting_missing is_network
joined-access b indicators network operator lt joined =
    let missing : setting_missing b 1 ≡ false = each-of-none setting_count _ network 1 (omega arith) in
    let tests : is_joined b operator && eqb (setting_of b operator 1) 0 ≡ false = each-of-none 16 _ missing operator lt in
    omega (arith, eqb-false (setting_of b operator 1) 0 (and-other _ _ joined tests))

module _ (b : Book) (ranged : within_limits b ≡ true) where
  -- where somebody takes part, a joined operator has points
  indicator-points : (indicator : Indicator) → 0 < indicator.points → 0 < reliable_mask b indicator
      → (operator : ℕ) × (operator < 16) × (is_joined b operator ≡ true) × (0 < get_or (points b indicator) operator 0)
  indicator-points indicator worth somebody =
      let one = some_one 16 (reliable_mask b indicator) (reliable-small b indicator ranged) somebody in
      let above : 0 < pool b indicator = pool-above b indicator ranged worth one.0 one.1 one.2 in
      let found = some-place (points b indicator) (rw (points_made_up b indicator ranged).whole above) in
      let place : found.0 < 16 = rw points-length at found.1 in
      (found.0, place, reliable-joined b indicator found.0 (points-reliable b indicator found.0 place found.2), found.2)

  -- and so over a list of indicators
  some-points : (indicators : List Indicator) → Worth indicators → all_marked b indicators ≡ false
      → (operator : ℕ) × (operator < 16) × (is_joined b operator ≡ true) × (0 < all_points b indicators operator)
  unfolding all_points
  some-points [] worth reliable = absurd (false≢true (sym reliable ∙ marked-none b))
  some-points (indicator ∷ rest) worth reliable =
      go (eqb (reliable_mask b indicator) 0) refl (sym (marked_more b ranged indicator rest) ∙ reliable) (some-points rest worth.1)
    where
      go : (t : Bool) → eqb (reliable_mask b indicator) 0 ≡ t → t && all_marked b rest ≡ false
          → (all_marked b rest ≡ false → (operator : ℕ) × (operator < 16) × (is_joined b operator ≡ true) × (0 < all_points b rest operator))
          → (operator : ℕ) × (operator < 16) × (is_joined b operator ≡ true) × (0 < get_or (points b indicator) operator 0 + all_points b rest operator)
      go true nobody others before =
          let found = before others in
          (found.0, found.1, found.2, omega (arith, found.3))
      go false somebody others before =
          let found = indicator-points indicator worth.0 (omega (arith, eqb-false (reliable_mask b indicator) 0 somebody)) in
          (found.0, found.1, found.2, omega (arith, found.3))

-- the pot is shared whole by weights of which one is above 0
shared-whole : (T : ℕ) (f : ℕ → ℕ) (sizes : List ℕ) (k : ℕ) → k < 16 → 0 < f k → sum (share T (each f) sizes) ≡ T
shared-whole T f sizes k lt above = (shared T (each f) sizes).whole (omega (arith, above, each-le-sum f k lt))

contributions_whole : (b : Book) (indicators : List Indicator) → within_limits b ≡ true → eqb b.joined 0 ≡ false → network_missing b indicators ≡ false → sum (contributions b) ≡ pot b
unfolding contributions is_joined
contributions_whole b indicators ranged somebody network =
    let found = some_one 16 b.joined (bounded b ranged).joined (omega (arith, eqb-false b.joined 0 somebody)) in
    shared-whole (pot b) _ _ found.0 found.1 (joined-access b indicators network found.0 found.1 found.2)

returns_whole : (b : Book) (indicators : List Indicator) → within_limits b ≡ true → Worth indicators → network_missing b indicators ≡ false
    → all_marked b indicators ≡ false → sum (returns b indicators) ≡ pot b
unfolding returns
returns_whole b indicators ranged worth network reliable =
    let found = some-points b ranged indicators worth reliable in
    shared-whole (pot b) _ _ found.0 found.1 (mul-pos (joined-access b indicators network found.0 found.1 found.2) found.3)

balanced-settlement : (b : Book) (indicators : List Indicator) → Worth indicators → Settles b indicators → Balanced b (settlement_by b indicators)
unfolding settlement_by points_at
balanced-settlement b indicators worth settles =
    let within = settles-within b indicators settles in
    let network = settles-network b indicators settles in
    record {
      points_whole = λ number lt. ap sum (points-at b indicators number lt) ∙ numbered-whole b indicators within number ∙ sym (pool-at b indicators number lt);
      contributions_whole = contributions_whole b indicators within (settles-somebody b indicators settles) network;
      returns_whole = returns_whole b indicators within worth network (settles-reliable b indicators settles);
      adjustments_cancel = adjustments_cancel b indicators;
      stays_within_limits = stays_within_limits b indicators;
      unjoined_nought = λ operator lt apart. (
        λ number inside.
            ap (λ (l : List ℕ). get_or l operator 0) (points-at b indicators number inside)
            ∙ numbered-none b indicators operator lt (points-unjoined b within operator lt apart) number,
        contribution-none b within operator lt apart,
        return-none b within operator lt apart indicators,
        limit-none b within operator lt apart,
        adjustment-none b within operator lt apart indicators,
      );
    }

pub balanced-if-settles : (b : Book) (indicators : List Indicator) → Worth indicators → Settles b indicators
    → Balanced b (settled_by b indicators).settlement
balanced-if-settles b indicators worth settles = rw (settled-so b indicators settles) (balanced-settlement b indicators worth settles)

pub settling : (b : Book) (indicators : List Indicator) → Settling b indicators
settling b indicators =
    record {
      exactly = settles-exactly b indicators;
      balanced = balanced-if-settles b indicators;
      alike = λ other same. ap (λ (a : Book). settled_by a indicators) same;
    }
