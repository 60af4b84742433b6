-- `money::pot_of` meets its contract.
-- Assumes nothing.
use mathlib.Core.Path.{◌≡◌, refl}
use native.Mathlib.Omega.{arith}
use lib.ListN.{length}
use Rattle.money.proofs.InRange.{incomes-le, pot-product-le, pot-le}
use borrow.Author.Rules.{rules}
use Rattle.money.proofs.pot_of.Goals as goal

pub sum_of-requires : goal.sum_of-requires
sum_of-requires c =
    let long : length c.args.incomes ≡ 16 = search rules in
    omega (arith, incomes-le c.args.rate c.args.incomes c.requires.0 c.requires.1 long)

pub overflow_mul-result : goal.overflow_mul-result
overflow_mul-result c =
    let long : length c.args.incomes ≡ 16 = search rules in
    rw (c.from.ensures, c.sum_of.ensures) (record { fits = omega (arith, pot-product-le c.args.rate c.args.incomes c.requires.0 c.requires.1 long) })

pub returns : goal.returns
returns c =
    let long : length c.args.incomes ≡ 16 = search rules in
    rw (c.from.ensures, c.sum_of.ensures) (refl, pot-le c.args.rate c.args.incomes c.requires.0 c.requires.1 long)
