-- `calls::kinds::takes_interruptions` meets its contract.
-- Assumes nothing.
use mathlib.Core.Path.{refl}
use Rattle.calls.proofs.KindLaws.{kinds-opened}
use Rattle.calls.proofs.kinds.takes_interruptions.Goals as goal

pub returns-in-Electricity : goal.returns-in-Electricity
unfolding kinds-opened
returns-in-Electricity c = rw c.in-Electricity.is refl

pub returns-in-Gas : goal.returns-in-Gas
unfolding kinds-opened
returns-in-Gas c = rw c.in-Gas.is refl
