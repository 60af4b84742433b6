-- `values::if_reliable` meets its contract: the test of the mask is the definition's.
-- Assumes nothing.
use mathlib.Core.Path.{◌≡◌, sym, ap, ◌∙◌}
use mathlib.Core.Bool.{Bool, cond}
use Prim.Native.Nat.{ℕ}
use Rattle.values.proofs.if_reliable.Goals as goal

-- one branch or the other, by the outcome of the test
chosen : {test found : Bool} {outcome : Bool} (sum : ℕ) → found ≡ test → found ≡ outcome → cond outcome sum 0 ≡ cond test sum 0
chosen sum is came = ap (λ (t : Bool). cond t sum 0) (sym came ∙ is)

pub returns-then-has_bit : goal.returns-then-has_bit
returns-then-has_bit c = chosen c.args.sum c.has_bit.ensures c.if-has_bit.true

pub returns : goal.returns
returns c = chosen c.args.sum c.has_bit.ensures c.if-has_bit.false
