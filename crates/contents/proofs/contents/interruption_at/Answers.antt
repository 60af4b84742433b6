-- `contents::contents::interruption_at` meets its contract.
-- Assumes nothing.
use mathlib.Core.Path.{refl}
use native.Mathlib.Nat.{add-zero}
use native.Mathlib.Omega.{arith}
use mir.Syntax.{w64}
use mir.Val.{SFits}
use Rattle.calls.proofs.Times.{back}
use Rattle.contents.specs.Content.{tags, tagged}
use Rattle.contents.proofs.NumberLaws.{byte-in, unsigned-in, signed-in}
use Rattle.contents.proofs.contents.interruption_at.Goals as goal

pub returns : goal.returns
unfolding tagged tags
returns c =
    let bytes = c.args.bytes.now in
    let at = c.args.at in
    let start_fits : SFits w64 c.signed_at.result = record { sfits = c.signed_at.type_inv } in
    let end_fits : SFits w64 c.signed_at-2.result = record { sfits = c.signed_at-2.type_inv } in
    let byte = byte-in bytes at 24 in
    let unsigned = unsigned-in bytes at 24 in
    let signed = signed-in bytes at 24 in
    rw (byte 0 (omega arith), add-zero, byte 1 (omega arith), byte 2 (omega arith), byte 3 (omega arith), signed 4 (omega arith), signed 12 (omega arith), unsigned 20 4 (omega arith), back start_fits, back end_fits, ← c.signed_at.ensures, ← c.signed_at-2.ensures, ← c.four_at.ensures) refl
