-- The definitions of `calls`, and of the crates that they rest on, opened by one name, for cases that are computed.
-- Assumes nothing.
use Rattle.calls.specs.Answers.{on_answer, is_refused, first_of}
use Rattle.calls.specs.Call.{starts_after_end, outside_period, weight_in_range, details_in_range, seconds_of, year_of, outcome, measured_entries, count_figure, interruption_entries, facts_of}
use Rattle.calls.specs.Masks.{has, including, excluding, remasked}
use Rattle.calls.proofs.KindLaws.{kinds-opened}

unfoldable pub calls-opened : Unit {0}
unfolding on_answer is_refused first_of starts_after_end outside_period weight_in_range details_in_range seconds_of year_of outcome measured_entries count_figure interruption_entries facts_of has including excluding remasked kinds-opened
calls-opened = tt
