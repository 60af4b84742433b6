-- `gathering::Gathered::put` meets its contract.
-- Assumes nothing.
use borrow.Author.Rules.{rules}
use mathlib.Core.Path.{◌≡◌, refl, ◌∙◌}
use native.Mathlib.Omega.{arith}
use lib.ListN.{length}
use Rattle.indicators.specs.Points.{point_places}
use Rattle.gathering.proofs.Gathering.{numbered-le}
use Rattle.gathering.proofs.Gathered.put.Goals as goal

pub place-requires : goal.place-requires
place-requires c =
    let long : length c.args.self.now.points ≡ point_places = search rules in
    omega arith

pub add-self-requires : goal.add-self-requires
add-self-requires c = (c.requires.totals_most, rw c.points_in-shares.ensures (numbered-le c.args.m.book.now c.args.kind c.args.number c.requires.number_there))

pub returns : goal.returns
returns c =
    let shares = c.points_in-shares.ensures in
    record {
      pools_are = rw c.pool_in.ensures refl;
      points_are = c.place.ensures ∙ rw shares refl;
      totals_are = c.add-self.ensures ∙ rw shares refl;
    }
