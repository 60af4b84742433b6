-- The first number in the order that applies to a call is given, whoever has joined and whatever the figures hold.
-- Assumes nothing.
use Prim.Native.Nat.{ℕ}
use mathlib.Core.Path.{refl}
use mathlib.Core.Bool.{Bool}
use mathlib.Core.List.{List}
use Rattle.calls.specs.Indicators.{Indicator}
use Rattle.calls.specs.declared.Call.{Call}
use Rattle.calls.specs.Call.{facts_of}
use Rattle.calls.specs.Laws.{rank, place_from, stand_from, First}
use Rattle.calls.proofs.First.{first-in-order}
use Rattle.ledger.specs.Table.{lines_for}

pub first-of-calls : (kind : List Indicator) (joined : ℕ → Bool) (total : ℕ → ℕ → ℕ → ℕ) (call : Call) → First (lines_for kind joined total call) (facts_of kind call).answer
unfolding rank place_from stand_from lines_for
first-of-calls kind joined total call = first-in-order (facts_of kind call).answer (lines_for kind joined total call) refl
