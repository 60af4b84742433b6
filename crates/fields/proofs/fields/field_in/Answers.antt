-- `fields::fields::field_in` meets its contract.
-- Assumes nothing.
use mathlib.Core.Path.{sym, ap, ◌∙◌}
use Prim.Native.Nat.{ℕ, ◌+◌, ◌-◌, ◌<◌, ◌≤◌}
use native.Mathlib.Omega.{arith}
use lib.ListN.{length, get_or}
use Rattle.calls.specs.Indicators.{indicators_of}
use Rattle.fields.specs.Steps.{content_said}
use Rattle.fields.proofs.FieldLaws.{passes-end, framed}
use Rattle.fields.proofs.fields.field_in.Goals as goal

pub returns-then-bytes-lt3 : goal.returns-then-bytes-lt3
returns-then-bytes-lt3 c = c.short_at.ensures _

pub returns-then-last-at : goal.returns-then-last-at
returns-then-last-at c = c.short_at-then-last-at.ensures _

-- 1, the length passes the end
pub returns-then-last-at-2 : goal.returns-then-last-at-2
returns-then-last-at-2 c =
    let bytes = c.args.bytes.now in
    let at = c.args.at in
    let some : at < length bytes = omega (arith, c.if-bytes-lt3.false, c.if-last-at.false) in
    let three : 3 ≤ length bytes - at = omega (arith, c.if-bytes-lt3.false, c.if-last-at.false) in
    sym (passes-end _ bytes at some three (omega (arith, c.unsigned_at-size.ensures.0, c.if-last-at-2.true)))

-- 2, 3 or a call
pub returns : goal.returns
returns c =
    let bytes = c.args.bytes.now in
    let at = c.args.at in
    let size = c.unsigned_at-size.ensures.0 in
    let some : at < length bytes = omega (arith, c.if-bytes-lt3.false, c.if-last-at.false) in
    let three : 3 ≤ length bytes - at = omega (arith, c.if-bytes-lt3.false, c.if-last-at.false) in
    c.content_at.ensures ∙ ap (λ (n : ℕ). content_said (indicators_of c.args.kind) (get_or bytes at 0) n bytes (at + 3)) size
    ∙ sym (framed _ bytes at some three (omega (arith, size, c.if-last-at-2.false)))
