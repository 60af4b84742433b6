-- `lines::lines::put_operator` meets its contract.
-- Assumes nothing.
use lib.IntN.{pos}
use lib.ListN.{get_or}
use mir.Syntax.{w64}
use mir.Val.{SFits}
use Rattle.std.proofs.Common.{rules}
use Rattle.text.specs.Text.{decimal}
use Rattle.text.proofs.WrittenLaws.{room-first, room_after, put_then}
use Rattle.text.proofs.SignLaws.{again}
use Rattle.columns.specs.Columns.{columns_of}
use Rattle.lines.proofs.LineLaws.{operator_row, operator-parts}
use Rattle.lines.proofs.lines.put_operator.Goals as goal

pub put_decimal-next-requires : goal.put_decimal-next-requires
put_decimal-next-requires c =
    room-first c.args.out.now c.args.at (decimal c.args.operator) (columns_of (operator_row c.args.s c.args.operator)) (rw (operator-parts c.args.s c.args.operator) at c.requires.room)

pub put_columns-requires : goal.put_columns-requires
put_columns-requires c =
    let fits : SFits w64 (get_or c.args.s.adjustments c.args.operator (pos 0)) = search rules in
    rw (again (get_or c.args.s.adjustments c.args.operator (pos 0)) fits, c.points_of_operator.ensures) (room_after c.args.out.now c.args.at (decimal c.args.operator) (columns_of (operator_row c.args.s c.args.operator)) (rw (operator-parts c.args.s c.args.operator) at c.requires.room) c.put_decimal-next.ensures)

pub returns : goal.returns
returns c =
    let fits : SFits w64 (get_or c.args.s.adjustments c.args.operator (pos 0)) = search rules in
    rw (operator-parts c.args.s c.args.operator)
    (put_then c.args.out.now c.args.at (decimal c.args.operator) (columns_of (operator_row c.args.s c.args.operator)) (rw (operator-parts c.args.s c.args.operator) at c.requires.room) c.put_decimal-next.ensures (rw (again (get_or c.args.s.adjustments c.args.operator (pos 0)) fits, c.points_of_operator.ensures) at c.put_columns.ensures))
