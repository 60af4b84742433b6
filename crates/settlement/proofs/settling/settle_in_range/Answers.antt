-- `settlement::settling::settle_in_range` meets its contract.
-- Assumes nothing.
use mathlib.Core.Path.{◌≡◌, refl, ◌∙◌}
use mathlib.Core.Bool.{true}
use native.Mathlib.Omega.{arith}
use Prim.Native.Nat.{ℕ, ◌*◌, ◌/◌, ◌≤◌}
use mathlib.Core.List.{List}
use Rattle.calls.specs.declared.Kind.{Kind}
use Rattle.calls.specs.Indicators.{indicators_of}
use Rattle.book.specs.declared.Book.{Book}
use Rattle.apportion.specs.Sum.{sum}
use borrow.Author.Rules.{rules}
use lib.ListN.{length, get_or}
use Rattle.apportion.specs.Share.{share}
use Rattle.book.specs.Book.{within_limits, in_range}
use Rattle.book.proofs.TakenLaws.{ranged-within}
use Rattle.values.specs.Operators.{each, settings_of}
use Rattle.values.specs.Bounds.{access_limit, income_limit}
use Rattle.values.proofs.Tables.{each_same}
use Rattle.values.proofs.InRange.{within, pot-rate-le, cap-rate-le}
use Rattle.settlement.specs.Settlement.{settlement_by}
use Rattle.money.specs.Money.{pot, limits, contributions, returns as returns_of_pot, adjusted_by, adjustments}
use Rattle.money.proofs.InRange.{income-at, access_most, incomes_most}
use Rattle.money.proofs.Amounts.{sixteen-le, weights-same}
use Rattle.settlement.proofs.settling.settle_in_range.Goals as goal

-- access points and incomes, as the book has them
module _ (b : Book) (kind : Kind) (ranged : in_range (indicators_of kind) b ≡ true) where
  inside : within_limits b ≡ true
  inside = ranged-within (indicators_of kind) b ranged

  access-at-most : (access : List ℕ) → access ≡ settings_of b 1 → (k : ℕ) → get_or access k 0 ≤ access_limit
  access-at-most access are k = rw are (access_most b inside k)

  incomes-at-most : (incomes : List ℕ) → incomes ≡ settings_of b 2 → (k : ℕ) → get_or incomes k 0 ≤ income_limit
  incomes-at-most incomes are k = rw are (incomes_most b inside k)

pub invariant_of-gather : goal.invariant_of-gather
invariant_of-gather c = record { within = within c.args.b.now (inside c.args.b.now c.args.kind c.requires) }

pub pot_of-pot-requires : goal.pot_of-pot-requires
pot_of-pot-requires c =
    let b = c.args.b.now in
    (omega (arith, pot-rate-le b (inside b c.args.kind c.requires)), incomes-at-most b c.args.kind c.requires _ c.settings_of-incomes.ensures)

pub share-contributions-requires : goal.share-contributions-requires
share-contributions-requires c =
    let access : List ℕ = c.settings_of-access.result in
    let most = access-at-most c.args.b.now c.args.kind c.requires access c.settings_of-access.ensures in
    let long : length access ≡ 16 = search rules in
    omega (arith, c.pot_of-pot.ensures.1, sixteen-le access access_limit long (λ k lt. most k))

pub return_weights-weights-requires : goal.return_weights-weights-requires
return_weights-weights-requires c =
    let most = access-at-most c.args.b.now c.args.kind c.requires _ c.settings_of-access.ensures in
    (λ k lt. most k, λ k lt. omega (arith, c.gather.ensures.totals_most k, most k))

pub share-returns-requires : goal.share-returns-requires
share-returns-requires c = omega (arith, c.pot_of-pot.ensures.1, c.return_weights-weights.ensures.1)

pub limits_of-limits-requires : goal.limits_of-limits-requires
limits_of-limits-requires c =
    let b = c.args.b.now in
    let in-limits = inside b c.args.kind c.requires in
    (omega (arith, pot-rate-le b in-limits, cap-rate-le b in-limits), incomes-at-most b c.args.kind c.requires _ c.settings_of-incomes.ensures)

pub adjust-adjustments-requires : goal.adjust-adjustments-requires
adjust-adjustments-requires c = λ k lt. c.limits_of-limits.ensures.1 k

pub returns : goal.returns
unfolding settlement_by pot limits contributions returns_of_pot adjustments
returns c =
    let b = c.args.b.now in
    let gathered = c.gather.ensures in
    let access : c.settings_of-access.result ≡ settings_of b 1 = c.settings_of-access.ensures in
    let incomes : c.settings_of-incomes.result ≡ settings_of b 2 = c.settings_of-incomes.ensures in
    let pooled : c.pot_of-pot.result ≡ pot b = c.pot_of-pot.ensures.0 ∙ (λ i. b.pot_rate * sum (incomes i) / 1000000) in
    let paid : c.share-contributions.result ≡ contributions b =
    c.share-contributions.ensures ∙ (λ i. share (pooled i) (access i) (access i)) in
    let weighed : c.return_weights-weights.result ≡ each (λ (k : ℕ). get_or c.settings_of-access.result k 0 * get_or c.gather.result.totals k 0) =
    c.return_weights-weights.ensures.0 in
    let weights = weighed ∙ weights-same b (indicators_of c.args.kind) _ _ access gathered.totals_are in
    let received : c.share-returns.result ≡ returns_of_pot b (indicators_of c.args.kind) =
    c.share-returns.ensures ∙ (λ i. share (pooled i) (weights i) (access i)) in
    let cut : c.limits_of-limits.result ≡ each (λ (k : ℕ). b.cap_rate * get_or c.settings_of-incomes.result k 0 / 1000000) =
    c.limits_of-limits.ensures.0 in
    let capped : c.limits_of-limits.result ≡ limits b =
    cut
    ∙ (λ i. each (λ (k : ℕ). b.cap_rate * get_or (incomes i) k 0 / 1000000))
    ∙ each_same _ _ (λ k lt. rw (income-at b k lt) refl) in
    let adjusted : c.adjust-adjustments.result ≡ adjustments b (indicators_of c.args.kind) =
    c.adjust-adjustments.ensures ∙ (λ i. adjusted_by (received i) (paid i) (capped i) (access i)) in
    rw (gathered.pools_are, gathered.points_are, pooled, paid, received, capped, adjusted) refl
