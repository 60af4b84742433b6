-- `gathering::gather` meets its contract.
-- Assumes nothing.
use Rattle.calls.specs.Indicators.{indicators_of}
use Rattle.gathering.proofs.Gathering.{Gathers}
use Rattle.gathering.proofs.gather.Given as goal

abbrev pub invariant-loop-number : goal.invariant-loop-number
invariant-loop-number l = Gathers l.m.book.now (indicators_of l.kind) l.number l.g
