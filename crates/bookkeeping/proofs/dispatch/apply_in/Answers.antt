-- `bookkeeping::dispatch::apply_in` meets its contract: a call keeps a book in range.
-- Assumes nothing.
use Rattle.calls.specs.Indicators.{indicators_of}
use Rattle.history.proofs.Kept.{stays}
use Rattle.bookkeeping.proofs.dispatch.apply_in.Goals as goal

pub invariant_of-ranged : goal.invariant_of-ranged
invariant_of-ranged c =
    let old = c.args.ranged.now in
    record { ranged = rw c.post.ensures.1 (stays (indicators_of old.kind) old.book c.args.filing_call old.ranged) }
