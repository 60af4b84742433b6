-- The whole settlement of a book, or its refusal (01, "Settlement" and numbers 5, 10, 11, 12).
-- Assumes nothing.
use Rattle.std.specs.Prelude.{ℕ, Bool, not, List, [], ◌∷◌, eqb, ℤ, pos, replicate}
use Rattle.settlement.specs.declared.Settlement.{Settlement}
use Rattle.calls.specs.Limits.{operators, indicator_count}
use Rattle.calls.specs.Answers.{Said, Acceptance, yes_said, on_answer, first_of}
use Rattle.book.specs.declared.Book.{Book}
use Rattle.book.specs.Book.{in_range}
use Rattle.calls.specs.Indicators.{Indicator, electricity, gas}
use Rattle.indicators.specs.Points.{pools_of_all, points_of_all, point_places}
use Rattle.readiness.specs.Readiness.{network_missing, all_marked}
use Rattle.money.specs.Money.{pot, contributions, returns, limits, adjustments}

-- a settlement by its parts: pools, points, pot, contributions, returns, limits, adjustments
abbrev pub settlement : List ℕ → List ℕ → ℕ → List ℕ → List ℕ → List ℕ → List ℤ → Settlement
settlement pools points pot out received limits adjustments =
    record { pools = pools; points = points; pot = pot; contributions = out; returns = received; limits = limits; adjustments = adjustments }

unfoldable pub settlement_by : Book → List Indicator → Settlement
settlement_by b indicators =
    settlement (pools_of_all b indicators) (points_of_all b indicators) (pot b) (contributions b) (returns b indicators) (limits b) (adjustments b indicators)

-- "it is all 0 on refusal"
unfoldable pub nothing : Settlement
nothing =
    let none : List ℕ = replicate operators 0 in
    settlement (replicate indicator_count 0) (replicate point_places 0) 0 none none none (replicate operators (pos 0))

-- the numbers by which settling refuses
unfoldable pub settling_lines : Book → List Indicator → List (ℕ × Bool)
settling_lines b indicators = (5, not (in_range indicators b)) ∷ (10, eqb b.joined 0) ∷ (11, network_missing b indicators) ∷ (12, all_marked b indicators) ∷ []

-- what settling gives
pub record Outcome : Type 0 where
  pub settlement : Settlement
  pub said : Said Acceptance

unfoldable pub settled_by : Book → List Indicator → Outcome
settled_by b indicators =
    let answer : Said Acceptance = first_of (settling_lines b indicators) yes_said in
    record { settlement = on_answer (λ (number : ℕ). nothing) (λ (value : Acceptance). settlement_by b indicators) answer; said = answer }

-- a book is electricity's where gas is not named (02, point 4)
abbrev pub settled : Book → Outcome
settled b = settled_by b electricity

abbrev pub settled_gas : Book → Outcome
settled_gas b = settled_by b gas
