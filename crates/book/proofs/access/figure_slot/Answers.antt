-- `book::access::figure_slot` meets its contract.
-- Assumes nothing.
use mathlib.Core.Path.{refl}
use native.Mathlib.Omega.{arith}
use Rattle.book.specs.Book.{figure_slot}
use Rattle.book.proofs.access.figure_slot.Goals as goal

pub returns : goal.returns
unfolding figure_slot
returns c = (refl, omega arith)
