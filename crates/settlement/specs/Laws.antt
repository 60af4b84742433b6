-- What holds of settling every book, over a list of indicators. The proof is `settling` of proofs/SettledLaws.antt.
-- Assumes nothing.
use Rattle.std.specs.Prelude.{ℕ, ◌*◌, ◌≤◌, ◌<◌, ◌≡◌, ◌↔◌, false, List, [], ◌∷◌, pos, nat_abs, get_or, take, drop}
use Rattle.calls.specs.Limits.{operators, indicator_count}
use Rattle.calls.specs.Answers.{accepted, yes_said}
use Rattle.calls.specs.Laws.{applies}
use Rattle.book.specs.declared.Book.{Book}
use Rattle.book.specs.Book.{is_joined}
use Rattle.apportion.specs.Sum.{sum}
use Rattle.calls.specs.Indicators.{Indicator}
use Rattle.money.specs.Money.{sumℤ}
use Rattle.settlement.specs.declared.Settlement.{Settlement}
use Rattle.settlement.specs.Settlement.{settling_lines, settled_by}

-- every indicator of a list is worth points
abbrev pub Worth : List Indicator → Type 0
Worth [] = Unit {0}
Worth (indicator ∷ rest) = (0 < indicator.points) × Worth rest

-- "A book settles when none of 5, 10, 11 and 12 applies to it"
abbrev pub Settles : Book → List Indicator → Type 0
Settles b indicators = (number : ℕ) → applies (settling_lines b indicators) number ≡ false

-- the points of the indicator of a number, by operator
unfoldable pub points_at : Settlement → ℕ → List ℕ
points_at s number = take operators (drop (operators * number) s.points)

pub record Balanced (b : Book) (s : Settlement) : Type 0 where
  -- at every indicator's number; both are 0 at one that the list has not
  pub points_whole : (number : ℕ) → number < indicator_count → sum (points_at s number) ≡ get_or s.pools number 0
  pub contributions_whole : sum s.contributions ≡ s.pot
  pub returns_whole : sum s.returns ≡ s.pot
  pub adjustments_cancel : sumℤ s.adjustments ≡ pos 0
  -- "An adjustment passes its limit when, sign aside, it is the larger": none does
  pub stays_within_limits : (operator : ℕ) → operator < operators → nat_abs (get_or s.adjustments operator (pos 0)) ≤ get_or s.limits operator 0
  -- "it is all 0 .. for operators not joined"
  pub unjoined_nought : (operator : ℕ) → operator < operators → is_joined b operator ≡ false
      → ((number : ℕ) → number < indicator_count → get_or (points_at s number) operator 0 ≡ 0)
      × (get_or s.contributions operator 0 ≡ 0) × (get_or s.returns operator 0 ≡ 0)
      × (get_or s.limits operator 0 ≡ 0) × (get_or s.adjustments operator (pos 0) ≡ pos 0)

pub record Settling (b : Book) (indicators : List Indicator) : Type 0 where
  -- the answer is yes exactly when the book settles,
  pub exactly : Settles b indicators ↔ ((settled_by b indicators).said ≡ accepted yes_said)
  -- and what it is then given is balanced, if the indicators are worth points
  pub balanced : Worth indicators → Settles b indicators → Balanced b (settled_by b indicators).settlement
  -- equal books give equal settlements or the same refusal
  pub alike : (other : Book) → b ≡ other → settled_by b indicators ≡ settled_by other indicators
