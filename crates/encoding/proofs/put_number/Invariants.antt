-- `encoding::put_number` meets its contract. The loop's invariant: the last bytes are stored, and the rest of the number is to come.
-- Assumes nothing.
use mathlib.Core.Path.{◌≡◌}
use Prim.Native.Nat.{◌≤◌}
use lib.ListN.{length}
use Rattle.encoding.proofs.NumberLaws.{Storing}
use Rattle.encoding.proofs.put_number.Given as goal

abbrev pub invariant-loop-left : goal.invariant-loop-left
invariant-loop-left l = (l.left ≤ l.width) × Storing l.initial.out l.at l.width l.number l.out l.rest l.left × (length l.out ≡ length l.initial.out)
