-- `contents::contents::index_at` meets its contract.
-- Assumes nothing.
use mathlib.Core.Path.{refl}
use native.Mathlib.Nat.{add-zero}
use native.Mathlib.Omega.{arith}
use Rattle.contents.specs.Content.{tags, tagged}
use Rattle.contents.proofs.NumberLaws.{byte-in, unsigned-in}
use Rattle.contents.proofs.contents.index_at.Goals as goal

pub returns : goal.returns
unfolding tagged tags
returns c =
    let bytes = c.args.bytes.now in
    let at = c.args.at in
    let byte = byte-in bytes at 5 in
    let unsigned = unsigned-in bytes at 5 in
    rw (byte 0 (omega arith), add-zero, unsigned 1 4 (omega arith), ← c.four_at.ensures) refl
