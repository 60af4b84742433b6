-- `columns::points_of_operator` meets its contract.
-- Assumes nothing.
use mathlib.Core.Path.{refl, ◌∙◌}
use borrow.Author.Rules.{rules}
use Rattle.std.proofs.lemmas.Iterator.{YieldsList-from_range, YieldsList-from_map}
use Rattle.std.proofs.lemmas.Iterator.Consumers.{sum_from_yields_List, fits_from_yields_list}
use Rattle.columns.proofs.SumLaws.{point_of, few_points, points-added}
use Rattle.columns.proofs.points_of_operator.Goals as goal

pub sum-requires-clause-fits : goal.sum-requires-clause-fits
sum-requires-clause-fits c =
    let points = c.args.s.points in
    fits_from_yields_list _ _ (YieldsList-from_map _ (point_of points c.args.operator) (YieldsList-from_range 0 6 6 (cc) refl) c.map.ensures.closure (λ x r q k. search rules))
    (few_points points c.args.operator c.requires.1)

pub returns : goal.returns
returns c =
    let points = c.args.s.points in
    sum_from_yields_List _ _ c.sum.ensures.ran (YieldsList-from_map _ (point_of points c.args.operator) (YieldsList-from_range 0 6 6 (cc) refl) c.map.ensures.closure (λ x r q k. search rules))
    ∙ points-added c.args.s c.args.operator
