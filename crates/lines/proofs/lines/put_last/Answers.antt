-- `lines::lines::put_last` meets its contract.
-- Assumes nothing.
use mathlib.Core.List.{[], ◌∷◌}
use Rattle.text.proofs.WrittenLaws.{room-first, room_after, put_then}
use Rattle.columns.specs.Columns.{columns_of}
use Rattle.lines.proofs.LineLaws.{last_row, last-parts}
use Rattle.lines.proofs.lines.put_last.Goals as goal

-- what is put stands first, so that a wrong sum is told before the room for it
pub returns : goal.returns
returns c =
    rw (last-parts c.args.s c.requires.0.adjustments_cancel)
    (put_then c.args.out.now c.args.at (97 ∷ 108 ∷ 108 ∷ []) (columns_of (last_row c.args.s)) (rw (last-parts c.args.s c.requires.0.adjustments_cancel) at c.requires.1) c.put_word-next.ensures (rw (c.sum_of.ensures, c.sum_of-2.ensures, c.sum_of-3.ensures) at c.put_columns.ensures))

pub put_word-next-requires : goal.put_word-next-requires
put_word-next-requires c =
    room-first c.args.out.now c.args.at (97 ∷ 108 ∷ 108 ∷ []) (columns_of (last_row c.args.s)) (rw (last-parts c.args.s c.requires.0.adjustments_cancel) at c.requires.1)

pub put_columns-requires : goal.put_columns-requires
put_columns-requires c =
    rw (c.sum_of.ensures, c.sum_of-2.ensures, c.sum_of-3.ensures) (room_after c.args.out.now c.args.at (97 ∷ 108 ∷ 108 ∷ []) (columns_of (last_row c.args.s)) (rw (last-parts c.args.s c.requires.0.adjustments_cancel) at c.requires.1) c.put_word-next.ensures)
