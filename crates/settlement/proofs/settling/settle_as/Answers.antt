-- `settlement::settling::settle_as` meets its contract: its tests follow the order of the numbers.
-- Assumes nothing.
use mathlib.Core.Path.{◌≡◌, refl, sym, ◌∙◌}
use mathlib.Core.Bool.{true}
use borrow.Author.Tests.{eq-eqb, ne_eqb}
use Rattle.calls.specs.Answers.{on_answer, first_of}
use Rattle.book.specs.Book.{in_range}
use Rattle.calls.specs.Indicators.{indicators_of}
use Rattle.book.proofs.TakenLaws.{ranged-within}
use Rattle.values.proofs.SameMeasures.{own-marks}
use Rattle.readiness.specs.Readiness.{network_missing, all_marked}
use Rattle.settlement.specs.Settlement.{settling_lines, settled_by}
use Rattle.settlement.proofs.settling.settle_as.Goals as goal
use Rattle.settlement.proofs.settling.settle_as.Goals.{Else-not-in_range, After-network_missing, After-all_marked}

-- what the tests found of the book
ranged : (c : Else-not-in_range) → in_range (indicators_of c.args.kind) c.args.b ≡ true
ranged c = sym c.in_range.ensures ∙ c.if-not-in_range.false

missing : (c : After-network_missing) → c.network_missing.result ≡ network_missing c.args.b (indicators_of c.args.kind)
missing c = c.network_missing.ensures

marked : (c : After-all_marked) → c.all_marked.result ≡ all_marked c.args.b (indicators_of c.args.kind)
marked c = c.all_marked.ensures c.args.b (ranged-within _ _ (sym c.in_range.ensures ∙ c.if-not-in_range.false)) (own-marks c.args.b)

-- 5
pub returns-then-not-in_range : goal.returns-then-not-in_range
unfolding settled_by settling_lines first_of on_answer
returns-then-not-in_range c = rw (sym c.in_range.ensures ∙ c.if-not-in_range.true) c.refuse.ensures

-- 10
pub returns-then-b-eq0 : goal.returns-then-b-eq0
unfolding settled_by settling_lines first_of on_answer
returns-then-b-eq0 c = rw (ranged (goal.at.returns-then-b-eq0 c).Else-not-in_range, eq-eqb _ _ c.if-b-eq0.true) c.refuse-then-b-eq0.ensures

-- 11
pub returns-then-network_missing : goal.returns-then-network_missing
unfolding settled_by settling_lines first_of on_answer
returns-then-network_missing c =
    rw (
      ranged (goal.at.returns-then-network_missing c).Else-not-in_range,
      ne_eqb _ _ c.if-b-eq0.false,
      sym (missing (goal.at.returns-then-network_missing c).After-network_missing) ∙ c.if-network_missing.true,
    )
    c.refuse-then-network_missing.ensures

-- 12
pub returns-then-all_marked : goal.returns-then-all_marked
unfolding settled_by settling_lines first_of on_answer
returns-then-all_marked c =
    rw (
      ranged (goal.at.returns-then-all_marked c).Else-not-in_range,
      ne_eqb _ _ c.if-b-eq0.false,
      sym (missing (goal.at.returns-then-all_marked c).After-network_missing) ∙ c.if-network_missing.false,
      sym (marked (goal.at.returns-then-all_marked c).After-all_marked) ∙ c.if-all_marked.true,
    )
    c.refuse-then-all_marked.ensures

pub settle_in_range-requires : goal.settle_in_range-requires
settle_in_range-requires c = ranged (goal.at.settle_in_range-requires c).Else-not-in_range

-- settled
pub returns : goal.returns
unfolding settled_by settling_lines first_of on_answer
returns c =
    rw (
      ranged (goal.at.returns c).Else-not-in_range,
      ne_eqb _ _ c.if-b-eq0.false,
      sym (missing (goal.at.returns c).After-network_missing) ∙ c.if-network_missing.false,
      sym (marked (goal.at.returns c).After-all_marked) ∙ c.if-all_marked.false,
    )
    (refl, c.settle_in_range.ensures)
