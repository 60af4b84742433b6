-- `contents::contents::mark_at` meets its contract.
-- Assumes nothing.
use mathlib.Core.Path.{refl}
use native.Mathlib.Nat.{add-zero}
use native.Mathlib.Omega.{arith}
use Rattle.contents.specs.Content.{tags, tagged}
use Rattle.contents.proofs.NumberLaws.{byte-in}
use Rattle.contents.proofs.contents.mark_at.Goals as goal

pub returns : goal.returns
unfolding tagged tags
returns c =
    let byte = byte-in c.args.bytes.now c.args.at 3 in
    rw (byte 0 (omega arith), add-zero, byte 1 (omega arith), byte 2 (omega arith)) refl
