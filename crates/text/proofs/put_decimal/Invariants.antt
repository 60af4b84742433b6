-- `text::put_decimal` meets its contract. The loop's invariant: the last digits are stored, and those of the rest are to come.
-- Assumes nothing.
use mathlib.Core.Path.{◌≡◌}
use lib.ListN.{length}
use Rattle.text.proofs.StoredDigits.{Storing}
use Rattle.text.proofs.put_decimal.Given as goal

abbrev pub invariant-loop-left : goal.invariant-loop-left
invariant-loop-left l = Storing l.initial.out l.at l.n l.out l.rest l.left × (length l.out ≡ length l.initial.out)
