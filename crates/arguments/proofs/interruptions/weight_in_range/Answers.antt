-- `arguments::interruptions::weight_in_range` meets its contract.
-- Assumes nothing.
use mathlib.Core.Path.{◌≡◌, refl, sym, ap}
use mathlib.Core.Bool.{Bool, true, false, cond, ◌&&◌}
use native.Mathlib.Omega.{arith}
use lib.Dec.{leb, eqb}
use borrow.Author.Tests.{lt-leb, le-leb, eq-eqb, ne_eqb}
use Rattle.calls.specs.Limits.{weight_limit}
use Rattle.calls.specs.Call.{weight_in_range}
use Rattle.arguments.proofs.interruptions.weight_in_range.Goals as goal

neither : (t : Bool) → cond t false false ≡ false
neither true = refl
neither false = refl

-- no cabin
pub returns-then-weight-lt1 : goal.returns-then-weight-lt1
unfolding weight_in_range
returns-then-weight-lt1 c =
    let args = c.args in
    rw (lt-leb 1 args.weight c.if-weight-lt1.true, ne_eqb args.weight 1 (λ e. omega (arith, e, c.if-weight-lt1.true))) (sym (neither (eqb args.level 0)))

-- low voltage
pub returns-then-level-ne0 : goal.returns-then-level-ne0
unfolding weight_in_range
returns-then-level-ne0 c =
    let args = c.args in
    ap (λ (t : Bool). cond t (leb 1 args.weight && leb args.weight weight_limit) (eqb args.weight 1)) (sym (ne_eqb args.level 0 c.if-level-ne0.true))

-- the limit decides
pub returns : goal.returns
unfolding weight_in_range
returns c = simp (eq-eqb _ _ c.if-level-ne0.false, le-leb _ _ c.if-weight-lt1.false)
