-- The definitions of `values`, and of the crates that they rest on, opened by one name, for cases that are computed.
-- Assumes nothing.
use Rattle.exact.specs.Division.{over}
use Rattle.values.specs.Indicator.{count_or_one, fee_divisor, yearly_value, three_years, reliable_mask, scores, pool, numbered, numbered_in}
use Rattle.values.specs.Sequence.{values_by_year, sums_of_years}
use Rattle.values.specs.Operators.{table, each, count, any}
use Rattle.calls.proofs.Opened.{calls-opened}
use Rattle.book.proofs.Opened.{book-opened}
use Rattle.apportion.proofs.Opened.{apportion-opened}
use lib.Count.{ones, ones_in}

unfoldable pub values-opened : Unit {0}
unfolding over count_or_one fee_divisor yearly_value three_years reliable_mask scores values_by_year sums_of_years pool numbered numbered_in table each count any calls-opened book-opened apportion-opened ones ones_in
values-opened = tt
