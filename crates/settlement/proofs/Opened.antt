-- The definitions of `settlement`, and of the crates that they rest on, opened by one name, for cases that are computed.
-- Assumes nothing.
use Rattle.readiness.specs.Readiness.{setting_missing, network_missing, is_marked_at_all, all_marked}
use Rattle.settlement.specs.Settlement.{settlement_by, nothing, settling_lines, settled_by}
use Rattle.money.proofs.Opened.{money-opened}

unfoldable pub settlement-opened : Unit {0}
unfolding setting_missing network_missing is_marked_at_all all_marked settlement_by nothing settling_lines settled_by money-opened
settlement-opened = tt
