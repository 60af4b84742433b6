-- `range::limits::only_of` meets its contract.
-- Assumes nothing.
use borrow.Author.Rules.{rules}
use Rattle.book.proofs.Bounds.{sixteen-bits}
use Rattle.book.proofs.FlatRange.{common-part}
use Rattle.range.proofs.limits.only_of.Goals as goal

pub returns : goal.returns
returns c =
    let args = c.args in
    rw (sixteen-bits {mask = args.mask} (search rules)) (common-part args.mask args.joined (search rules))
