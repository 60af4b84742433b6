-- `exact::divide_by_digits` meets its contract.
-- Assumes nothing.
use mathlib.Core.Path.{◌≡◌, ap}
use Prim.Native.Nat.{ℕ, ◌*◌, ◌/◌, ◌-◌, ◌^◌, ◌%◌, ◌<◌, ◌≤◌}
use native.Mathlib.Nat.{one-mul, div-one, mod-lt, mul-le-mul_right, pow-le-pow_right}
use native.Mathlib.Omega.{arith}
use lib.Count.{count_leading_zeros, leading_le}
use lib.Dec.{lit<}
use lib.Pow.{pow_pos, shl_exact, shr_le}
use Rattle.exact.proofs.Product.{no_bits, two-free, digit_room, longer, appended, quotient_le, divided}
use Rattle.exact.proofs.divide_by_digits.Goals as goal

-- a shifted 1 is a power of two
base_is : (n : ℕ) → n < 64 → 1 * 2 ^ n % 2 ^ 64 ≡ 2 ^ n
base_is n small = rw (shl_exact 1 n 64 (lit< tt) (omega arith)) (one-mul _)

pub overflow_sub-width : goal.overflow_sub-width
overflow_sub-width c = omega (arith, two-free c.args.s c.requires.divisor_small)

pub overflow_sub-k : goal.overflow_sub-k
overflow_sub-k c = leading_le 64 c.args.t

pub loop-k-init : goal.loop-k-init
loop-k-init c =
    let none = no_bits c.args.t (omega arith) in
    record {
      bits = omega (arith, two-free c.args.t c.requires.factor_small);
      reduced = c.requires.divisor_positive;
      quotient_most = omega arith;
      product = omega (arith, ap (λ (z : ℕ). z * c.args.w) none);
    }

pub overflow_shl-base : goal.overflow_shl-base
overflow_shl-base c = omega (arith, c.min-bits.ensures, c.loop-k.invariant.bits)

pub overflow_sub-k-in-loop-k : goal.overflow_sub-k-in-loop-k
overflow_sub-k-in-loop-k c = omega (arith, c.min-bits.ensures)

pub nonzero_rem-t : goal.nonzero_rem-t
nonzero_rem-t c = rw (base_is _ (overflow_shl-base c)) (pow_pos _)

pub append_digit-d-requires : goal.append_digit-d-requires
append_digit-d-requires c =
    let here = c.loop-k in
    let t = c.args.t in
    let n = c.min-bits.result in
    let within : n ≤ here.k = omega (arith, c.min-bits.ensures) in
    let narrow : n ≤ count_leading_zeros 64 c.args.s - 1 = omega (arith, c.min-bits.ensures) in
    let short : n ≤ 62 = omega (arith, within, here.invariant.bits) in
    let most : here.d.quotient * 2 ^ n ≤ t / 2 ^ here.k * 2 ^ n = mul-le-mul_right (2 ^ n) here.invariant.quotient_most in
    rw (base_is n (omega (arith, short)))
    (record {
      is_digit = mod-lt _ (pow_pos n);
      part = c.requires.part;
      reduced = here.invariant.reduced;
      base_small = pow-le-pow_right (lit< tt) short;
      room = digit_room c.args.s n c.requires.divisor_small narrow;
      quotient_small = omega (arith, most, longer t here.k n within, shr_le t (here.k - n), c.requires.factor_small);
    })

pub loop-k-smaller : goal.loop-k-smaller
loop-k-smaller c = omega (arith, c.min-bits.ensures, two-free c.args.s c.requires.divisor_small)

pub loop-k-preserved : goal.loop-k-preserved
loop-k-preserved c =
    let here = c.loop-k in
    let n = c.min-bits.result in
    let next = c.append_digit-d in
    let within : n ≤ here.k = omega (arith, c.min-bits.ensures) in
    let product =
    appended c.args.t c.args.w c.args.s here.k n _ _ _ _
    within here.invariant.product (rw (base_is n (omega (arith, within, here.invariant.bits))) at next.ensures.1) in
    record {
      bits = omega (arith, here.invariant.bits);
      reduced = omega (arith, next.ensures.0);
      quotient_most = quotient_le _ _ _ _ _ c.requires.divisor_positive c.requires.part product;
      product = product;
    }

pub returns : goal.returns
returns c =
    let last : c.loop-k.k ≡ 0 = omega arith in
    divided _ _ _ _ c.requires.divisor_positive c.loop-k.invariant.reduced (rw (last, div-one) at c.loop-k.invariant.product)
