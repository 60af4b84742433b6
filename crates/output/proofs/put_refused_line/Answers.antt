-- `output::put_refused_line` meets its contract.
-- Assumes nothing.
use Prim.Native.Nat.{◌^◌, ◌<◌}
use native.Mathlib.Omega.{arith}
use Rattle.text.specs.Text.{bytes_of}
use Rattle.text.proofs.WrittenLaws.{room_after, put_then}
use Rattle.output.specs.Output.{refused_by_number, refused_line}
use Rattle.output.proofs.RefusalLaws.{line-length, room, at_front}
use Rattle.output.proofs.put_refused_line.Goals as goal

pub put_word-requires : goal.put_word-requires
unfolding refused_line bytes_of
put_word-requires c =
    let number = c.args.number in
    let old = c.args.out.now in
    let small : number < 2 ^ 64 = omega arith in
    room_after old 0 (refused_by_number number) (bytes_of "\n") (room old (refused_line number) 29 c.requires (line-length number small) (omega arith)) c.put_refused-last.ensures

pub returns : goal.returns
unfolding refused_line bytes_of
returns c =
    let number = c.args.number in
    let old = c.args.out.now in
    let small : number < 2 ^ 64 = omega arith in
    let done = at_front old (refused_line number) (put_then old 0 (refused_by_number number) (bytes_of "\n") (room old (refused_line number) 29 c.requires (line-length number small) (omega arith)) c.put_refused-last.ensures c.put_word.ensures) in
    record { value = done.0; out_after = done.1 }
