-- `contents::numbers::unsigned_at` meets its contract.
-- Assumes nothing.
use Prim.Native.Nat.{ℕ, ◌+◌, ◌-◌}
use mathlib.Core.Path.{◌≡◌, refl, ap, ◌∙◌}
use native.Mathlib.Omega.{arith}
use borrow.Author.Rules.{rules}
use lib.ListN.{take, drop, length-take, length-drop}
use Rattle.contents.specs.Content.{big_endian, unsigned}
use Rattle.contents.proofs.NumberLaws.{unsigned-more, power-more, power-fits, byte-of-run}
use Rattle.contents.proofs.numbers.unsigned_at.Goals as goal

pub loop-byte-init : goal.loop-byte-init
unfolding unsigned big_endian
loop-byte-init c =
    let all : c.args.at + c.args.width - c.args.at ≡ c.args.width = omega arith in
    (ap (λ (n : ℕ). take n (drop c.args.at c.args.bytes.now)) all, refl, search rules)

pub overflow_mul-number : goal.overflow_mul-number
overflow_mul-number c =
    let inside = byte-of-run c.args.bytes.now _ c.args.at c.args.width c.loop-byte.byte-index c.loop-byte.invariant.0 c.loop-byte-test.true in
    let fits = power-fits c.loop-byte.byte-index (omega arith) in
    record { fits = omega (arith, fits) }

pub overflow_add-number : goal.overflow_add-number
overflow_add-number c =
    let inside = byte-of-run c.args.bytes.now _ c.args.at c.args.width c.loop-byte.byte-index c.loop-byte.invariant.0 c.loop-byte-test.true in
    let fits = power-fits c.loop-byte.byte-index (omega arith) in
    record { fits = omega (arith, fits, c.from.ensures ∙ inside.1, c.type_inv.bytes (c.args.at + c.loop-byte.byte-index)) }

pub loop-byte-preserved : goal.loop-byte-preserved
loop-byte-preserved c =
    let inside = byte-of-run c.args.bytes.now _ c.args.at c.args.width c.loop-byte.byte-index c.loop-byte.invariant.0 c.loop-byte-test.true in
    let more = unsigned-more c.args.bytes.now c.args.at c.loop-byte.byte-index (omega arith) in
    let byte = c.type_inv.bytes (c.args.at + c.loop-byte.byte-index) in
    (c.loop-byte.invariant.0, omega (arith, more, c.from.ensures ∙ inside.1), omega (arith, power-more c.loop-byte.byte-index, c.from.ensures ∙ inside.1, byte))

pub returns : goal.returns
returns c =
    let all : c.loop-byte.byte-index ≡ c.args.width = omega (arith, length-take (c.args.at + c.args.width - c.args.at) (drop c.args.at c.args.bytes.now), length-drop c.args.at c.args.bytes.now) in
    (rw all at c.loop-byte.invariant.1, rw all at c.loop-byte.invariant.2)
