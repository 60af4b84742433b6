-- `encoding::field_size` meets its contract.
-- Assumes nothing.
use native.Mathlib.Omega.{arith}
use Rattle.encoding.proofs.FieldLaws.{field-length}
use Rattle.encoding.proofs.field_size.Goals as goal

pub overflow_add-result : goal.overflow_add-result
overflow_add-result c =
    record { fits = omega (arith, c.requires, field-length c.args.field) }

pub overflow_add-result-2 : goal.overflow_add-result-2
overflow_add-result-2 c =
    record { fits = omega (arith, c.requires, field-length c.args.field) }

pub returns : goal.returns
returns c =
    omega (arith, field-length c.args.field)
