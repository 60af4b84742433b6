-- `encoding::put_field` meets its contract.
-- Assumes nothing.
use native.Mathlib.Omega.{arith}
use Rattle.encoding.proofs.FieldLaws.{field-length, tag-room, length-room, front-room, value_room, field_put}
use Rattle.encoding.proofs.put_field.Goals as goal

-- what is put stands first, so that a wrong number is told before the room for it
pub returns : goal.returns
returns c =
    let sized = c.put_number-content_at in
    field_put c.args.out.now c.args.at c.args.field c.requires c.put_number-length_at.ensures {second = sized.result} sized.ensures c.put_number-value_at.ensures {after = c.put_number.result} c.put_number.ensures

pub put_number-length_at-requires : goal.put_number-length_at-requires
put_number-length_at-requires c =
    tag-room c.args.out.now c.args.at c.args.field c.requires

pub overflow_add-field : goal.overflow_add-field
overflow_add-field c =
    record { fits = omega (arith, c.requires, field-length c.args.field) }

pub put_number-content_at-requires : goal.put_number-content_at-requires
put_number-content_at-requires c =
    length-room c.args.out.now c.args.at c.args.field c.requires c.put_number-length_at.ensures

pub put_number-value_at-requires : goal.put_number-value_at-requires
put_number-value_at-requires c =
    front-room c.args.out.now c.args.at c.args.field c.requires c.put_number-length_at.ensures c.put_number-content_at.ensures

pub put_number-requires : goal.put_number-requires
put_number-requires c =
    value_room c.args.out.now c.args.at c.args.field c.requires c.put_number-length_at.ensures c.put_number-content_at.ensures c.put_number-value_at.ensures
