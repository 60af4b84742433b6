-- `writer::put_entries` meets its contract.
-- Assumes nothing.
use mathlib.Core.Path.{◌≡◌}
use lib.ListN.{length}
use Rattle.calls.specs.Indicators.{indicators_of}
use Rattle.text.proofs.WrittenLaws.{Put}
use Rattle.writer.proofs.SoFarLaws.{so_far}
use Rattle.writer.proofs.put_entries.Given as goal

abbrev pub invariant-loop-place : goal.invariant-loop-place
invariant-loop-place l = Put l.initial.out 0 (so_far (indicators_of l.kind) l.b l.place) l.out l.at × (length l.out ≡ length l.initial.out)
