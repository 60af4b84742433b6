-- `output::put_refused_field` meets its contract.
-- Assumes nothing.
use Prim.Native.Nat.{◌^◌, ◌<◌}
use mathlib.Core.List.{◌++◌}
use native.Mathlib.Omega.{arith}
use Rattle.text.specs.Text.{bytes_of, decimal}
use Rattle.text.proofs.WrittenLaws.{room-first, room_after, put_then, three-second, three_third, put_three}
use Rattle.output.specs.Output.{refused_by_number, refused_field}
use Rattle.output.proofs.RefusalLaws.{field-length, room, at_front}
use Rattle.output.proofs.put_refused_field.Goals as goal

-- what is put stands first, so that a wrong number is told before the room for it
pub returns : goal.returns
unfolding refused_field bytes_of
returns c =
    let number = c.args.number in
    let old = c.args.out.now in
    let small : number < 2 ^ 64 = omega arith in
    let offset = c.args.offset in
    let most = room old (refused_field number offset) 53 c.requires (field-length number small offset (omega arith)) (omega arith) in
    let parts = refused_by_number number ++ bytes_of " at " ++ decimal offset in
    let three = room-first old 0 parts (bytes_of "\n") most in
    let last = c.put_decimal-last in
    let done = at_front old (refused_field number offset)
    (put_then old 0 parts (bytes_of "\n") most (put_three old 0 (refused_by_number number) (bytes_of " at ") (decimal offset) three c.put_refused-first.ensures c.put_word-second.ensures {after = last.result} last.ensures) c.put_word.ensures) in
    record { value = done.0; out_after = done.1 }

pub put_word-second-requires : goal.put_word-second-requires
unfolding refused_field bytes_of
put_word-second-requires c =
    let number = c.args.number in
    let old = c.args.out.now in
    let small : number < 2 ^ 64 = omega arith in
    let offset = c.args.offset in
    let most = room old (refused_field number offset) 53 c.requires (field-length number small offset (omega arith)) (omega arith) in
    let parts = refused_by_number number ++ bytes_of " at " ++ decimal offset in
    let three = room-first old 0 parts (bytes_of "\n") most in
    three-second old 0 (refused_by_number number) (bytes_of " at ") (decimal offset) three c.put_refused-first.ensures

pub put_decimal-last-requires : goal.put_decimal-last-requires
unfolding refused_field bytes_of
put_decimal-last-requires c =
    let number = c.args.number in
    let old = c.args.out.now in
    let small : number < 2 ^ 64 = omega arith in
    let offset = c.args.offset in
    let most = room old (refused_field number offset) 53 c.requires (field-length number small offset (omega arith)) (omega arith) in
    let parts = refused_by_number number ++ bytes_of " at " ++ decimal offset in
    let three = room-first old 0 parts (bytes_of "\n") most in
    three_third old 0 (refused_by_number number) (bytes_of " at ") (decimal offset) three c.put_refused-first.ensures c.put_word-second.ensures

pub put_word-requires : goal.put_word-requires
unfolding refused_field bytes_of
put_word-requires c =
    let number = c.args.number in
    let old = c.args.out.now in
    let small : number < 2 ^ 64 = omega arith in
    let offset = c.args.offset in
    let most = room old (refused_field number offset) 53 c.requires (field-length number small offset (omega arith)) (omega arith) in
    let parts = refused_by_number number ++ bytes_of " at " ++ decimal offset in
    let three = room-first old 0 parts (bytes_of "\n") most in
    room_after old 0 parts (bytes_of "\n") most (put_three old 0 (refused_by_number number) (bytes_of " at ") (decimal offset) three c.put_refused-first.ensures c.put_word-second.ensures c.put_decimal-last.ensures)
