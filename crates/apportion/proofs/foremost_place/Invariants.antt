-- `apportion::foremost_place` meets its contract. The loop's invariant: best is the claim of the foremost of the places passed.
-- Assumes nothing.
use mathlib.Core.Path.{◌≡◌}
use Rattle.apportion.specs.Share.{foremost}
use Rattle.apportion.specs.Steps.{spare, claim_at}
use Rattle.apportion.proofs.foremost_place.Given as goal

abbrev pub invariant-loop-i : goal.invariant-loop-i
invariant-loop-i l = l.best ≡ claim_at l.places l.sizes (foremost l.sizes (spare l.places) l.i)
