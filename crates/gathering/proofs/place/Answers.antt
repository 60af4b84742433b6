-- `gathering::place` meets its contract.
-- Assumes nothing.
use borrow.Author.Rules.{rules}
use mathlib.Core.Path.{◌≡◌}
use native.Mathlib.Omega.{arith}
use lib.ListN.{length}
use Rattle.std.proofs.lemmas.Slice.{put_mid-paste}
use Rattle.gathering.proofs.place.Goals as goal

pub returns : goal.returns
returns c =
    let sixteen : 16 ≡ length c.args.shares = search rules in
    put_mid-paste c.args.at _ c.args.list.now _ c.args.shares 16 c.copy_from_slice.ensures.after (omega arith) sixteen
