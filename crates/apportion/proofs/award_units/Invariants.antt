-- `apportion::award_units` meets its contract. The loop's invariant: handing out what is left now ends as handing out all at the start.
-- Assumes nothing.
use Prim.Native.Nat.{◌-◌}
use Rattle.apportion.specs.Steps.{quotients, spare}
use Rattle.apportion.proofs.Awarded.{HandingOut}
use Rattle.apportion.proofs.award_units.Given as goal

abbrev pub invariant-loop : goal.invariant-loop
invariant-loop l = HandingOut 16 l.units l.sizes (spare l.initial.places) (quotients l.initial.places) (l.units - l.counter) (spare l.places) (quotients l.places)
