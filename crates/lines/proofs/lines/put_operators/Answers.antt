-- `lines::lines::put_operators` meets its contract. The loop's invariant: the lines of the operators passed are put.
-- Assumes nothing.
use mathlib.Core.Path.{◌≡◌, refl, ◌∙◌}
use native.Mathlib.Omega.{arith}
use Rattle.lines.specs.Lines.{operator_lines}
use Rattle.text.proofs.WrittenLaws.{put-nothing, room_after, put_then}
use Rattle.lines.proofs.LineLaws.{addition, lines_more, lines-within}
use Rattle.lines.proofs.lines.put_operators.Goals as goal

pub loop-operator-init : goal.loop-operator-init
unfolding operator_lines
loop-operator-init c = (put-nothing _ _, refl)

pub put_if_joined-next-requires : goal.put_if_joined-next-requires
put_if_joined-next-requires c =
    let here = c.loop-operator in
    record { printable = c.requires.0; known = omega arith; room = room_after c.args.out.now c.args.at (operator_lines c.args.b c.args.s here.operator) (addition c.args.b c.args.s here.operator) (omega (arith, c.requires.1, lines-within c.args.b c.args.s here.operator (omega arith))) here.invariant.0 }

pub loop-operator-preserved : goal.loop-operator-preserved
loop-operator-preserved c =
    let here = c.loop-operator in (
      rw (lines_more c.args.b c.args.s here.operator) (put_then c.args.out.now c.args.at (operator_lines c.args.b c.args.s here.operator) (addition c.args.b c.args.s here.operator) (omega (arith, c.requires.1, lines-within c.args.b c.args.s here.operator (omega arith))) here.invariant.0 c.put_if_joined-next.ensures),
      c.put_if_joined-next.auto.out ∙ here.invariant.1,
    )

pub returns : goal.returns
returns c =
    let last : c.loop-operator.operator ≡ 16 = omega arith in
    rw last at c.loop-operator.invariant.0
