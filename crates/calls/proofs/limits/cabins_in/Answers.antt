-- `calls::limits::cabins_in` meets its contract.
-- Assumes nothing.
use mathlib.Core.Path.{refl, sym}
use native.Mathlib.Omega.{arith}
use Rattle.calls.proofs.SettingLaws.{last-cabins}
use Rattle.calls.proofs.limits.cabins_in.Goals as goal

-- year 1
pub returns-in-1 : goal.returns-in-1
returns-in-1 c = (rw c.in-1.is refl, omega arith)

-- year 2
pub returns-in_default : goal.returns-in_default
returns-in_default c = (sym (last-cabins c.args.year c.in_default.in_default-own.rest.0.1 c.in_default.in_default-own.rest.1), omega arith)
