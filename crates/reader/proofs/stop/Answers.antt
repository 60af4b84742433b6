-- `reader::stop` meets its contract.
-- Assumes nothing.
use mathlib.Core.Path.{refl}
use Rattle.reader.specs.Steps.{stopped}
use Rattle.reader.proofs.stop.Goals as goal

pub returns : goal.returns
unfolding stopped
returns c = λ b. refl
