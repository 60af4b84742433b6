-- `columns::put_columns` meets its contract.
-- Assumes nothing.
use Rattle.columns.proofs.ColumnLaws.{points-room, out-room, received-room, adjustment-room, columns-put}
use Rattle.text.proofs.SignLaws.{again}
use Rattle.std.proofs.Common.{rules}
use Rattle.columns.proofs.put_columns.Goals as goal

-- what is put stands first, so that a wrong column is told before the room for it
pub returns : goal.returns
returns c =
    let second = c.put_column-second in
    columns-put c.args.out.now c.args.at c.args.row c.requires c.put_column-first.ensures {at₂ = second.result} second.ensures c.put_column-third.ensures
    (rw (again c.args.row.adjustment (search rules)) at c.put_adjustment.ensures)

pub put_column-first-requires : goal.put_column-first-requires
put_column-first-requires c =
    points-room c.args.out.now c.args.at c.args.row c.requires

pub put_column-second-requires : goal.put_column-second-requires
put_column-second-requires c =
    out-room c.args.out.now c.args.at c.args.row c.requires c.put_column-first.ensures

pub put_column-third-requires : goal.put_column-third-requires
put_column-third-requires c =
    received-room c.args.out.now c.args.at c.args.row c.requires c.put_column-first.ensures c.put_column-second.ensures

pub put_adjustment-requires : goal.put_adjustment-requires
put_adjustment-requires c =
    rw (again c.args.row.adjustment (search rules))
    (adjustment-room c.args.out.now c.args.at c.args.row c.requires c.put_column-first.ensures c.put_column-second.ensures c.put_column-third.ensures)
