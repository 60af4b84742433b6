-- `judging::interruptions::count_figure` meets its contract.
-- Assumes nothing.
use mathlib.Core.Path.{refl}
use Rattle.calls.specs.Call.{count_figure}
use Rattle.judging.proofs.interruptions.count_figure.Goals as goal

-- short
pub returns-in-Short : goal.returns-in-Short
unfolding count_figure
returns-in-Short c = rw c.in-Short.is refl

-- planned
pub returns-in-Planned : goal.returns-in-Planned
unfolding count_figure
returns-in-Planned c = rw c.in-Planned.is refl

-- coupled
pub returns-in-Coupled : goal.returns-in-Coupled
unfolding count_figure
returns-in-Coupled c = rw c.in-Coupled.is refl

-- exceptional
pub returns-in-Exceptional : goal.returns-in-Exceptional
unfolding count_figure
returns-in-Exceptional c = rw c.in-Exceptional.is refl
