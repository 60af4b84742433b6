-- The loop of `contents::numbers::unsigned_at`: it goes over the number's bytes, and the number is that of the bytes passed and fits in as
-- many bytes.
-- Assumes nothing.
use Prim.Native.Nat.{◌^◌, ◌<◌}
use mathlib.Core.Path.{◌≡◌}
use lib.ListN.{take, drop}
use Rattle.contents.specs.Content.{unsigned}
use Rattle.contents.proofs.numbers.unsigned_at.Given as goal

abbrev pub invariant-loop-byte : goal.invariant-loop-byte
invariant-loop-byte l =
    (l.byte-items ≡ take l.fn.width (drop l.fn.at l.fn.bytes)) × (l.number ≡ unsigned l.byte-index l.fn.bytes l.fn.at) × (l.number < 256 ^ l.byte-index)
