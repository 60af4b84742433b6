-- `lines::lines::put_operators` meets its contract. The loop's invariant: the lines of the operators passed are put.
-- Assumes nothing.
use mathlib.Core.Path.{◌≡◌}
use lib.ListN.{length}
use Rattle.lines.specs.Lines.{operator_lines}
use Rattle.text.proofs.WrittenLaws.{Put}
use Rattle.lines.proofs.lines.put_operators.Given as goal

abbrev pub invariant-loop-operator : goal.invariant-loop-operator
invariant-loop-operator l = Put l.initial.out l.at (operator_lines l.b l.s l.operator) l.out l.next × (length l.out ≡ length l.initial.out)
