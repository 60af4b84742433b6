-- `readiness::asked_and_missing` meets its contract.
-- Assumes nothing.
use mathlib.Core.Path.{◌≡◌, sym, ◌∙◌}
use mathlib.Core.Bool.{false}
use Rattle.calls.specs.Indicators.{indicators_of, is_network}
use Rattle.readiness.proofs.asked_and_missing.Goals as goal

pub returns-else-is_network : goal.returns-else-is_network
returns-else-is_network c =
    let none : is_network (indicators_of c.args.kind) c.args.which ≡ false = sym c.is_network.ensures ∙ c.if-is_network.false in
    rw none c.if-is_network.false
