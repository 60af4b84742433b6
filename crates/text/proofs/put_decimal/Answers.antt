-- `text::put_decimal` meets its contract. The loop's invariant: the last digits are stored, and those of the rest are to come.
-- Assumes nothing.
use mathlib.Core.Path.{refl, ap}
use Prim.Native.Nat.{ℕ, ◌+◌}
use native.Mathlib.Omega.{arith}
use lib.ListN.{length-set}
use Rattle.text.proofs.StoredDigits.{storing-none, storing-room, storing-more, storing-last, last-digit}
use Rattle.text.proofs.put_decimal.Goals as goal

pub loop-left-init : goal.loop-left-init
loop-left-init c = (rw c.digit_count-count.ensures (storing-none c.requires), refl)

pub loop-left-preserved : goal.loop-left-preserved
loop-left-preserved c = (storing-more c.loop-left.invariant.0 (omega arith), simp length-set c.loop-left.invariant.1)

pub overflow_cast-out-2 : goal.overflow_cast-out-2
overflow_cast-out-2 c = let last = last-digit c.loop-left.invariant.0 (omega arith) in record { fits = omega (arith, last) }

pub overflow_add-out-2 : goal.overflow_add-out-2
overflow_add-out-2 c = let last = last-digit c.loop-left.invariant.0 (omega arith) in record { fits = omega (arith, last) }

pub bounds-out-at-2 : goal.bounds-out-at-2
bounds-out-at-2 c = let room = storing-room c.loop-left.invariant.0 in omega (arith, room.0, room.1)

pub returns : goal.returns
returns c = (
  storing-last c.loop-left.invariant.0 (omega arith),
  ap (λ (count : ℕ). c.args.at + count) c.digit_count-count.ensures,
)
