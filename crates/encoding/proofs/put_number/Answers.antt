-- `encoding::put_number` meets its contract. The loop's invariant: the last bytes are stored, and the rest of the number is to come.
-- Assumes nothing.
use mathlib.Core.Path.{◌≡◌, refl}
use Prim.Native.Nat.{◌-◌}
use native.Mathlib.Omega.{arith}
use lib.ListN.{length-set}
use Rattle.fields.proofs.EncodingLaws.{bytes-length}
use Rattle.encoding.proofs.NumberLaws.{storing-none, storing-more, storing-all}
use Rattle.encoding.proofs.put_number.Goals as goal

pub loop-left-init : goal.loop-left-init
loop-left-init c = (omega arith, storing-none (omega (arith, bytes-length c.args.width c.args.number)), refl)

pub loop-left-preserved : goal.loop-left-preserved
loop-left-preserved c = (omega arith, storing-more (c.loop-left.left - 1) (omega arith) c.loop-left.invariant.1, simp length-set c.loop-left.invariant.2)

pub returns : goal.returns
returns c =
    let none : c.loop-left.left ≡ 0 = omega arith in
    (storing-all (rw none at c.loop-left.invariant.1), omega (arith, bytes-length c.args.width c.args.number))
