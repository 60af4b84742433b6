-- `output::put_refused` meets its contract.
-- Assumes nothing.
use Prim.Native.Nat.{◌^◌, ◌<◌}
use native.Mathlib.Omega.{arith}
use Rattle.text.specs.Text.{bytes_of, decimal}
use Rattle.text.proofs.WrittenLaws.{room_after, put_then}
use Rattle.output.specs.Output.{refused_by_number}
use Rattle.output.proofs.RefusalLaws.{by_length, room}
use Rattle.output.proofs.put_refused.Goals as goal

pub put_decimal-requires : goal.put_decimal-requires
unfolding refused_by_number bytes_of
put_decimal-requires c =
    let number = c.args.number in
    let old = c.args.out.now in
    let small : number < 2 ^ 64 = omega arith in
    room_after old 0 (bytes_of "refused ") (decimal number) (room old (refused_by_number number) 28 c.requires (by_length number small) (omega arith)) c.put_word-next.ensures

pub returns : goal.returns
unfolding refused_by_number bytes_of
returns c =
    let number = c.args.number in
    let old = c.args.out.now in
    let small : number < 2 ^ 64 = omega arith in
    put_then old 0 (bytes_of "refused ") (decimal number) (room old (refused_by_number number) 28 c.requires (by_length number small) (omega arith)) c.put_word-next.ensures c.put_decimal.ensures
