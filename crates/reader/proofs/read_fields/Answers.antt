-- `reader::read_fields` meets its contract.
-- Assumes nothing.
use Prim.Native.Nat.{suc, ◌-◌, ◌<◌, ◌≤◌}
use mathlib.Core.Path.{◌≡◌, refl, sym, ap, subst, ◌∙◌}
use native.Mathlib.Omega.{arith}
use lib.ListN.{length}
use Rattle.std.specs.declared.ops.ControlFlow.TheVariants.{Continue, Break}
use Rattle.calls.specs.Indicators.{indicators_of}
use Rattle.fields.specs.Field.{field_in}
use Rattle.filing.specs.Reader.{read_from_as}
use Rattle.reader.specs.Steps.{Turned, told_turn, stepped}
use Rattle.reader.proofs.StepLaws.{completed, remaining, remaining-more, completed-more, completed-stopped, step-completed, step_follows}
use borrow.Author.Rules.{rules}
use Rattle.reader.proofs.read_fields.Goals as goal

pub loop-further-init : goal.loop-further-init
loop-further-init c = (record { counted = search rules; same = refl }, refl)

pub step-requires : goal.step-requires
step-requires c = c.loop-further.invariant.0.counted

pub loop-further-smaller : goal.loop-further-smaller
loop-further-smaller c =
    let here = told_turn c.loop-further.ranged.book (Continue c.loop-further.reached) in
    let next = told_turn c.step.new.ranged.book (Continue c.in-Continue.further) in
    let bytes = c.args.bytes.now in
    let less = subst (λ (t : Turned). remaining bytes t < suc (length bytes - here.reached.offset)) (sym c.in-Continue.ensures.turned)
    (step_follows (indicators_of c.loop-further.ranged.kind) bytes here.reached c.loop-further.invariant.0.counted).less in
    omega (arith, rw (remaining-more bytes next refl) at less)

pub loop-further-preserved : goal.loop-further-preserved
loop-further-preserved c =
    let here = told_turn c.loop-further.ranged.book (Continue c.loop-further.reached) in
    let next = told_turn c.step.new.ranged.book (Continue c.in-Continue.further) in
    let bytes = c.args.bytes.now in
    let kind = indicators_of c.args.ranged.now.kind in
    let turned : next ≡ stepped kind here.reached (field_in kind bytes here.reached.offset) =
    rw c.loop-further.invariant.1 at c.in-Continue.ensures.turned in (
      record {
        counted = subst (λ (t : Turned). t.reached.applied ≤ t.reached.offset) (sym turned) (step_follows kind bytes here.reached c.loop-further.invariant.0.counted).counted;
        same = ap (completed kind bytes) turned ∙ step-completed kind bytes here.reached ∙ sym (completed-more kind bytes here refl) ∙ c.loop-further.invariant.0.same;
      },
      c.in-Continue.ensures.kind_stays ∙ c.loop-further.invariant.1,
    )

-- read to its end or to a refusal
pub returns-in-Break : goal.returns-in-Break
unfolding read_from_as
returns-in-Break c =
    let here = told_turn c.loop-further.ranged.book (Continue c.loop-further.reached) in
    let last = told_turn c.step.new.ranged.book (Break c.in-Break.progress) in
    let bytes = c.args.bytes.now in
    let kind = indicators_of c.args.ranged.now.kind in
    let turned : last ≡ stepped kind here.reached (field_in kind bytes here.reached.offset) = rw c.loop-further.invariant.1 at c.in-Break.ensures.turned in
    rw c.args.ranged.now.ranged
    (sym (completed-stopped kind bytes last refl)
    ∙ ap (completed kind bytes) turned
    ∙ step-completed kind bytes here.reached
    ∙ sym (completed-more kind bytes here refl)
    ∙ c.loop-further.invariant.0.same
    ∙ completed-more kind bytes _ refl)
