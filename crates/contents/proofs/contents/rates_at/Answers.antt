-- `contents::contents::rates_at` meets its contract.
-- Assumes nothing.
use mathlib.Core.Path.{refl}
use native.Mathlib.Nat.{add-zero}
use native.Mathlib.Omega.{arith}
use Rattle.contents.specs.Content.{tags, tagged}
use Rattle.contents.proofs.NumberLaws.{unsigned-in}
use Rattle.contents.proofs.contents.rates_at.Goals as goal

pub returns : goal.returns
unfolding tagged tags
returns c =
    let bytes = c.args.bytes.now in
    let at = c.args.at in
    let unsigned = unsigned-in bytes at 8 in
    rw (unsigned 0 4 (omega arith), add-zero, unsigned 4 4 (omega arith), ← c.four_at.ensures, ← c.four_at-2.ensures) refl
