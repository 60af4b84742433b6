-- `fields::tags::sized` meets its contract.
-- Assumes nothing.
use Prim.Native.Nat.{ℕ, ◌+◌}
use mathlib.Core.Path.{◌≡◌, sym, ap, ap₂, ◌∙◌}
use native.Mathlib.Omega.{arith}
use lib.ListN.{take, drop}
use Rattle.calls.specs.Answers.{accepted}
use Rattle.contents.specs.Content.{tagged}
use Rattle.fields.specs.Field.{call_then}
use Rattle.fields.proofs.ContentLaws.{missized-said, call-said}
use Rattle.fields.proofs.tags.sized.Goals as goal

-- 3
pub returns-then-size-due : goal.returns-then-size-due
returns-then-size-due c = λ kind had.
    let args = c.args in
    sym (missized-said kind args.tag args.size args.bytes.now args.at had (λ same. c.if-size-due.true (same ∙ sym c.requires.1)))

pub call_at-requires : goal.call_at-requires
call_at-requires c = (c.requires.0, omega arith)

-- a call
pub returns : goal.returns
returns c = λ kind had.
    let args = c.args in
    let due : args.size ≡ args.due = c.if-size-due.false in
    let same = due ∙ c.requires.1 in
    ap accepted
    (ap₂ call_then
    (c.call_at.ensures ∙ ap (λ (n : ℕ). (tagged args.tag).call (take n (drop args.at args.bytes.now))) (sym same))
    (ap (λ (n : ℕ). args.at + n) (sym due)))
    ∙ sym (call-said kind args.tag args.size args.bytes.now args.at had same)
