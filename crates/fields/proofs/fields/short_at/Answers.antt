-- `fields::fields::short_at` meets its contract.
-- Assumes nothing.
use mathlib.Core.Path.{sym}
use native.Mathlib.Omega.{arith}
use Rattle.fields.proofs.FieldLaws.{ends, no_length}
use Rattle.fields.proofs.fields.short_at.Goals as goal

-- the end
pub returns-then-bytes-at : goal.returns-then-bytes-at
returns-then-bytes-at c = λ kind. sym (ends kind c.args.bytes.now c.args.at c.if-bytes-at.true)

-- 1
pub returns : goal.returns
returns c = λ kind.
    sym (no_length kind c.args.bytes.now c.args.at c.if-bytes-at.false (omega arith))
