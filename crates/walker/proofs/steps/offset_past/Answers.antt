-- `walker::steps::offset_past` meets its contract.
-- Assumes nothing.
use Rattle.std.proofs.Common.{rules}
use Rattle.calls.specs.Answers.{on_answer}
use Rattle.walker.specs.Walk.{past_found, past}
use Rattle.walker.proofs.steps.offset_past.Goals as goal

-- a call
pub returns-in-CallThen : goal.returns-in-CallThen
unfolding past past_found on_answer
returns-in-CallThen c = search rules

-- the end
pub returns-in-End : goal.returns-in-End
unfolding past past_found on_answer
returns-in-End c = search rules

-- refused by its bytes
pub returns-in-Refused : goal.returns-in-Refused
unfolding past on_answer
returns-in-Refused c = search rules
