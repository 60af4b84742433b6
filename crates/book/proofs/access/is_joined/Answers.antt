-- `book::access::is_joined` meets its contract.
-- Assumes nothing.
use Rattle.book.specs.Book.{is_joined}
use Rattle.book.proofs.access.is_joined.Goals as goal

pub returns : goal.returns
unfolding is_joined
returns c = c.has_bit.ensures
