-- `contents::numbers::eight_at` meets its contract.
-- Assumes nothing.
use Prim.Native.Nat.{◌+◌, ◌*◌}
use mathlib.Core.Path.{◌∙◌}
use Rattle.contents.proofs.NumberLaws.{unsigned-halves}
use Rattle.contents.proofs.numbers.eight_at.Goals as goal

pub returns : goal.returns
returns c =
    let high = c.unsigned_at-high.ensures.0 in
    let low = c.unsigned_at-low.ensures.0 in
    (λ i. high i * 4294967296 + low i) ∙ unsigned-halves c.args.bytes.now c.args.at c.requires
