-- `exact::divide_product` meets its contract.
-- Assumes nothing.
use mathlib.Core.Path.{refl}
use Rattle.exact.proofs.divide_product.Goals as goal

-- the product fits
pub returns-in-Some : goal.returns-in-Some
returns-in-Some c = rw c.in-Some.ensures.1 (refl, refl)

-- it does not
pub returns-in-None : goal.returns-in-None
returns-in-None c = c.divide_by_digits.ensures
