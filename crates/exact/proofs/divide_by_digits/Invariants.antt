-- `exact::divide_by_digits` meets its contract.
-- Assumes nothing.
use Rattle.exact.proofs.Product.{CutOff}
use Rattle.exact.proofs.divide_by_digits.Given as goal

abbrev pub invariant-loop-k : goal.invariant-loop-k
invariant-loop-k l = CutOff l.t l.w l.s l.k l.d.quotient l.d.remainder

abbrev pub decreases-loop-k : goal.decreases-loop-k
decreases-loop-k l = l.k
