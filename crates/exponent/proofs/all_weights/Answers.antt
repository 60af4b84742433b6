-- `exponent::all_weights` meets its contract: the table follows the recurrence, by one test over all its entries.
-- Assumes nothing.
use native.Mathlib.Omega.{arith}
use Rattle.exponent.specs.Weight.{weight_of}
use Rattle.exponent.proofs.Entries.{entry_at}
use Rattle.exponent.proofs.all_weights.Goals as goal

pub returns : goal.returns
unfolding weight_of
returns c = λ k le. entry_at 1001 k (omega arith)
