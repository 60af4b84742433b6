-- `exponent::weight` meets its contract.
-- Assumes nothing.
use Rattle.exponent.proofs.weight.Goals as goal

pub returns : goal.returns
returns c = c.all_weights-weights.ensures c.args.k c.requires
