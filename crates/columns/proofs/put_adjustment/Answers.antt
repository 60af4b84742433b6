-- `columns::put_adjustment` meets its contract.
-- Assumes nothing.
use mathlib.Core.List.{[], ◌∷◌}
use Rattle.text.specs.Text.{signed_decimal}
use Rattle.text.proofs.WrittenLaws.{three-second, three_third, put_three}
use Rattle.text.proofs.SignLaws.{again}
use Rattle.columns.proofs.put_adjustment.Goals as goal

pub put_signed-last-requires : goal.put_signed-last-requires
put_signed-last-requires c =
    rw (again c.args.n c.ranges.n) (three-second c.args.out.now c.args.at (32 ∷ []) (signed_decimal c.args.n) (10 ∷ []) c.requires c.put_byte-first.ensures)

pub put_byte-requires : goal.put_byte-requires
put_byte-requires c =
    three_third c.args.out.now c.args.at (32 ∷ []) (signed_decimal c.args.n) (10 ∷ []) c.requires c.put_byte-first.ensures (rw (again c.args.n c.ranges.n) at c.put_signed-last.ensures)

pub returns : goal.returns
returns c =
    put_three c.args.out.now c.args.at (32 ∷ []) (signed_decimal c.args.n) (10 ∷ []) c.requires c.put_byte-first.ensures (rw (again c.args.n c.ranges.n) at c.put_signed-last.ensures) c.put_byte.ensures
