-- `indicators::interruptions::thousandth` meets its contract.
-- Assumes nothing.
use Rattle.indicators.proofs.interruptions.thousandth.Goals as goal

pub returns : goal.returns
returns c = c.normalise.ensures.0
