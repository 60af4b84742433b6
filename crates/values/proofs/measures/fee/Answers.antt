-- `values::measures::fee` meets its contract.
-- Assumes nothing.
use Prim.Native.Nat.{◌*◌, ◌≤◌}
use mathlib.Core.Path.{ap, ◌∙◌}
use native.Mathlib.Nat.{mul-le-mul}
use native.Mathlib.Omega.{arith}
use Rattle.calls.specs.Limits.{figure_limit, index_most}
use Rattle.exact.specs.Division.{over}
use Rattle.book.specs.Book.{index_of}
use Rattle.values.specs.Indicator.{count_or_one, fee_divisor, yearly_value}
use Rattle.values.proofs.FeeLaws.{larger-of-one}
use Rattle.values.proofs.measures.fee.Goals as goal

pub returns : goal.returns
unfolding yearly_value fee_divisor index_of
returns c =
    let made = c.max-made.ensures ∙ larger-of-one c.figure_in.result ∙ ap count_or_one c.figure_in.ensures.value in
    c.divide.ensures.0 ∙ (λ i. over (10 * c.figure_in-fees.ensures.value i * c.from-base.ensures i) (made i * c.from-index.ensures i))

pub overflow_mul-fees-2 : goal.overflow_mul-fees-2
unfolding index_of
overflow_mul-fees-2 c =
    let base : c.from-base.result ≤ index_most = rw c.from-base.ensures (c.args.m.within.indices_within 3 (omega arith)) in
    record { fits = omega (arith, mul-le-mul c.figure_in-fees.ensures.most base) }

pub overflow_mul-made : goal.overflow_mul-made
unfolding index_of
overflow_mul-made c =
    let index : c.from-index.result ≤ index_most = rw c.from-index.ensures (c.args.m.within.indices_within c.args.year (omega arith)) in
    let made : c.max-made.result ≤ figure_limit = omega arith in
    record { fits = omega (arith, mul-le-mul made index) }
