-- `values::reliable_mask` meets its contract.
-- Assumes nothing.
use mathlib.Core.Path.{refl}
use Rattle.values.specs.Indicator.{reliable_mask}
use Rattle.values.proofs.Numbered.{number_of}
use Rattle.values.proofs.reliable_mask.Goals as goal

pub returns : goal.returns
unfolding reliable_mask
returns c = rw (number_of c.args.number c.requires) refl
