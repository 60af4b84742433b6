-- `columns::put_column` meets its contract.
-- Assumes nothing.
use mathlib.Core.List.{[], ◌∷◌}
use Rattle.text.specs.Text.{decimal}
use Rattle.text.proofs.WrittenLaws.{put_then}
use Rattle.columns.proofs.put_column.Goals as goal

pub returns : goal.returns
returns c =
    let space = c.put_byte-next in
    put_then c.args.out.now c.args.at (32 ∷ []) (decimal c.args.n) c.requires {between = space.result} space.ensures c.put_decimal.ensures
