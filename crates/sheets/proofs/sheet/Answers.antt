-- `sheets::sheet` meets its contract.
-- Assumes nothing.
use mathlib.Core.Path.{ap}
use Rattle.sheets.specs.Sheet.{Sheet}
use Rattle.sheets.proofs.sheet.Goals as goal

-- five zeros with a refusal
pub returns-in-Err-clause-counts_value : goal.returns-in-Err-clause-counts_value
returns-in-Err-clause-counts_value c = ap (λ (s : Sheet). s.counts) c.in-Err.ensures
