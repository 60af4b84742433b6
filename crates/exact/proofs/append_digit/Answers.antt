-- `exact::append_digit` meets its contract.
-- Assumes nothing.
use Prim.Native.Nat.{◌+◌, ◌*◌}
use native.Mathlib.Nat.{mod-lt, div-add-mod'}
use native.Mathlib.Omega.{arith}
use Rattle.exact.proofs.Product.{parts_small, digits-small}
use Rattle.exact.proofs.append_digit.Goals as goal

pub overflow_mul-sum : goal.overflow_mul-sum
overflow_mul-sum c = let parts = parts_small c.requires in record { fits = omega (arith, parts.0) }

pub overflow_mul-sum-2 : goal.overflow_mul-sum-2
overflow_mul-sum-2 c = let parts = parts_small c.requires in record { fits = omega (arith, parts.1) }

pub overflow_add-sum : goal.overflow_add-sum
overflow_add-sum c = let parts = parts_small c.requires in record { fits = omega (arith, parts.0, parts.1) }

pub overflow_add-result : goal.overflow_add-result
overflow_add-result c = let more = digits-small c.requires in record { fits = omega (arith, more) }

pub returns : goal.returns
returns c =
    let args = c.args in
    let sum = args.d.remainder * args.base + args.digit * args.w in
    (omega (arith, mod-lt sum {m = args.s} (omega arith)), omega (arith, div-add-mod' sum args.s))
