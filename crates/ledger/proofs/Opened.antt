-- The definitions of `ledger`, and of the crates that they rest on, opened by one name, for cases that are computed.
-- Assumes nothing.
use Rattle.ledger.specs.Calls.{entered, enter_all, map_from, unattested, changed, outcome_of, apply, file_as, filed_book, filed_answers}
use Rattle.ledger.specs.Table.{passes_limit, falls_below, lines_for, answer_to}
use Rattle.calls.proofs.Opened.{calls-opened}
use Rattle.book.proofs.Opened.{book-opened}

unfoldable pub ledger-opened : Unit {0}
unfolding entered enter_all map_from unattested changed outcome_of apply file_as filed_book filed_answers passes_limit falls_below lines_for answer_to calls-opened book-opened
ledger-opened = tt
