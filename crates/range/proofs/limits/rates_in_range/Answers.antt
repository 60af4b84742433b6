-- `range::limits::rates_in_range` meets its contract: the rates of a book have the range of those that are filed.
-- Assumes nothing.
use Rattle.calls.specs.Call.{facts_of}
use Rattle.book.specs.Book.{rates_in_range}
use Rattle.range.proofs.limits.rates_in_range.Goals as goal

pub returns : goal.returns
unfolding rates_in_range facts_of
returns c = c.rates_in_range.ensures
