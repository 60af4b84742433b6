-- The loop of `walker::walks::walk`: what has been counted, and what the walker stands at.
-- Assumes nothing.
use Rattle.std.proofs.Common.{length, ◌-◌}
use Rattle.walker.proofs.Turns.{Turn}
use Rattle.walker.proofs.walks.walk.Given as goal

abbrev pub invariant-loop-walker : goal.invariant-loop-walker
invariant-loop-walker l = Turn l.bytes l.fields l.walker l.taken

abbrev pub decreases-loop-walker : goal.decreases-loop-walker
decreases-loop-walker l = length l.bytes - l.walker.offset
