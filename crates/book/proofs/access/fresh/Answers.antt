-- `book::access::fresh` meets its contract.
-- Assumes nothing.
use mathlib.Core.Path.{refl}
use Rattle.book.specs.Book.{fresh_book}
use Rattle.book.proofs.access.fresh.Goals as goal

pub returns : goal.returns
unfolding fresh_book
returns c = refl
