-- `writer::written_size` meets its contract.
-- Assumes nothing.
use Prim.Native.Nat.{◌*◌, ◌≤◌}
use mathlib.Core.Path.{◌≡◌}
use lib.ListN.{length}
use Rattle.calls.specs.Indicators.{indicators_of}
use Rattle.writer.proofs.SoFarLaws.{so_far}
use Rattle.writer.proofs.written_size.Given as goal

abbrev pub invariant-loop-place : goal.invariant-loop-place
invariant-loop-place l = (l.size ≡ length (so_far (indicators_of l.kind) l.b l.place)) × (l.size ≤ 15 * l.place)
