-- No more bytes are printed than were put.
-- Assumes nothing.
use Rattle.std.proofs.Common.{◌≤◌, length, arith, length-take}
use Rattle.output.proofs.RefusalLaws.{front-within}
use Rattle.settling.proofs.print_output.Goals as goal

pub slice_bounds-text-end : goal.slice_bounds-text-end
slice_bounds-text-end g c = rw (c.output_as-count.ensures.value, c.output_as-count.ensures.out_after) (front-within _ _)

pub slice_bounds-write_all-end : goal.slice_bounds-write_all-end
slice_bounds-write_all-end g c =
    let made = c.output_as-count in
    let within : made.result ≤ length made.new.out = rw (made.ensures.value, made.ensures.out_after) (front-within _ _) in
    omega (arith, length-take made.result made.new.out)
