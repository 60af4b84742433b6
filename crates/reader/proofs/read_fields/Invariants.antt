-- `reader::read_fields` meets its contract.
-- Assumes nothing.
use Prim.Native.Nat.{◌-◌}
use mathlib.Core.Path.{◌≡◌}
use lib.ListN.{length}
use Rattle.std.specs.declared.ops.ControlFlow.TheVariants.{Continue}
use Rattle.calls.specs.Indicators.{indicators_of}
use Rattle.reader.specs.Steps.{told_turn}
use Rattle.reader.proofs.StepLaws.{Continued}
use Rattle.reader.proofs.read_fields.Given as goal

abbrev pub invariant-loop-further : goal.invariant-loop-further
invariant-loop-further l =
    Continued (indicators_of l.initial.ranged.kind) l.bytes (told_turn l.initial.ranged.book (Continue l.initial.reached))
    (told_turn l.ranged.book (Continue l.reached))
    × (l.ranged.kind ≡ l.initial.ranged.kind)

abbrev pub decreases-loop-further : goal.decreases-loop-further
decreases-loop-further l = length l.bytes - l.reached.offset
