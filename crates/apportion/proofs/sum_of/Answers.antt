-- `apportion::sum_of` meets its contract.
-- Assumes nothing.
use mathlib.Core.Path.{◌≡◌, ◌∙◌}
use native.Mathlib.Omega.{arith}
use Rattle.std.proofs.lemmas.Iterator.{YieldsList-from_slice}
use Rattle.std.proofs.lemmas.Iterator.Consumers.{sum_from_yields_List, fits_from_yields_list}
use Rattle.apportion.specs.Sum.{sum}
use Rattle.apportion.proofs.Sums.{same_sum}
use Rattle.apportion.proofs.sum_of.Goals as goal

pub sum-requires-clause-fits : goal.sum-requires-clause-fits
sum-requires-clause-fits g c = fits_from_yields_list _ _ (YieldsList-from_slice c.args.numbers cc) (rw same_sum c.requires)

pub returns : goal.returns
returns g c =
    let added : c.sum.result ≡ sum c.args.numbers = sum_from_yields_List _ _ c.sum.ensures.ran (YieldsList-from_slice c.args.numbers cc) ∙ same_sum _ in
    omega arith
