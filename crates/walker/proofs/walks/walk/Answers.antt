-- `walker::walks::walk` meets its contract.
-- Assumes nothing.
use Rattle.std.proofs.Common.{ap, sym, subst, ◌∙◌, arith}
use Rattle.walker.specs.declared.Walker.{Walker}
use Rattle.walker.proofs.WalkedLaws.{Reached, at-start}
use Rattle.walker.proofs.Turns.{taken_same, on, come_to}
use Rattle.walker.proofs.walks.walk.Goals as goal

pub loop-walker-init : goal.loop-walker-init
loop-walker-init c =
    record {
      same = ap (λ (w : Walker). w.bytes.now) c.walker_over-walker.ensures;
      reached = subst (Reached c.args.bytes.now 0) (sym (ap (λ (w : Walker). w.offset) c.walker_over-walker.ensures)) (at-start c.args.bytes.now);
      stood = c.next-taken.ensures.0;
      moved = c.next-taken.ensures.1;
    }

pub loop-walker-smaller : goal.loop-walker-smaller
loop-walker-smaller c = omega (arith, (on c.args.bytes.now _ _ _ c.loop-walker.invariant c.loop-walker-test.true).within)

pub loop-walker-preserved : goal.loop-walker-preserved
loop-walker-preserved c =
    record {
      same = taken_same c.args.bytes.now _ _ _ c.loop-walker.invariant;
      reached = on c.args.bytes.now _ _ _ c.loop-walker.invariant c.loop-walker-test.true;
      stood = c.next-taken-in-loop-walker.ensures.0;
      moved = c.next-taken-in-loop-walker.ensures.1;
    }

pub returns : goal.returns
returns c =
    let ended = come_to c.args.bytes.now _ _ _ c.loop-walker.invariant c.loop-walker-test.false in
    (ended.0, c.offset.ensures ∙ ended.1, ended.2)
