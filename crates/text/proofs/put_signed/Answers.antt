-- `text::put_signed` meets its contract.
-- Assumes nothing.
use mathlib.Core.Path.{◌≡◌}
use mathlib.Core.List.{[], ◌∷◌}
use lib.IntN.{nat_abs}
use Rattle.text.specs.Text.{decimal}
use Rattle.text.proofs.WrittenLaws.{room-first, room_after, put_then}
use Rattle.text.proofs.SignLaws.{size-again, signed-negative, signed-other}
use Rattle.text.proofs.put_signed.Goals as goal
use Rattle.text.proofs.put_signed.Goals.{After-unsigned_abs-size}

sized : (m : After-unsigned_abs-size) → m.unsigned_abs-size.result ≡ nat_abs m.args.n
sized m = size-again m.args.n m.ranges.n m.unsigned_abs-size.ensures.value

-- what is put stands first, so that a wrong byte is told before the room for it
pub returns-then-n-lt0 : goal.returns-then-n-lt0
returns-then-n-lt0 c =
    let size = sized (goal.at.returns-then-n-lt0 c).After-unsigned_abs-size in
    let text = signed-negative c.args.n c.ranges.n c.if-n-lt0.true in
    let sign = c.put_byte-next in
    rw text
    (put_then c.args.out.now c.args.at (45 ∷ []) (decimal (nat_abs c.args.n)) (rw text at c.requires) {between = sign.result} sign.ensures (rw size at c.put_decimal.ensures))

pub put_byte-next-requires : goal.put_byte-next-requires
put_byte-next-requires c =
    room-first c.args.out.now c.args.at (45 ∷ []) (decimal (nat_abs c.args.n)) (rw (signed-negative c.args.n c.ranges.n c.if-n-lt0.true) at c.requires)

pub put_decimal-requires : goal.put_decimal-requires
put_decimal-requires c =
    rw (sized (goal.at.put_decimal-requires c).After-unsigned_abs-size)
    (room_after c.args.out.now c.args.at (45 ∷ []) (decimal (nat_abs c.args.n)) (rw (signed-negative c.args.n c.ranges.n c.if-n-lt0.true) at c.requires) c.put_byte-next.ensures)

pub put_decimal-requires-2 : goal.put_decimal-requires-2
put_decimal-requires-2 c =
    rw (sized (goal.at.put_decimal-requires-2 c).After-unsigned_abs-size) (rw (signed-other c.args.n c.ranges.n c.if-n-lt0.false) at c.requires)

pub returns : goal.returns
returns c =
    let size = sized (goal.at.returns c).After-unsigned_abs-size in
    rw (signed-other c.args.n c.ranges.n c.if-n-lt0.false) (rw size at c.put_decimal-2.ensures)
