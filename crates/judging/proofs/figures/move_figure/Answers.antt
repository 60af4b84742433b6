-- `calls::figures::move_figure` meets its contract.
-- Assumes nothing.
use mathlib.Core.Path.{refl}
use Prim.Native.Nat.{◌+◌}
use native.Mathlib.Omega.{arith}
use borrow.Author.Tests.{lt-ltb, le-ltb, eq-eqb, ne_eqb}
use Rattle.calls.specs.Limits.{figure_limit}
use Rattle.calls.specs.Answers.{first_of}
use Rattle.judging.specs.Figures.{moved_by}
use Rattle.judging.proofs.figures.move_figure.Goals as goal

-- the value alone passes the limit
pub returns-then-value-gt-FIGURE_LIMIT : goal.returns-then-value-gt-FIGURE_LIMIT
unfolding moved_by first_of
returns-then-value-gt-FIGURE_LIMIT c = simp (eq-eqb _ _ c.if-sign-eq0.true, lt-ltb figure_limit (c.args.old + c.args.value) (omega arith))

-- the sum passes it
pub returns-then-value-old : goal.returns-then-value-old
unfolding moved_by first_of
returns-then-value-old c = simp (eq-eqb _ _ c.if-sign-eq0.true, lt-ltb figure_limit (c.args.old + c.args.value) (omega arith))

-- added
pub returns-then-sign-eq0 : goal.returns-then-sign-eq0
unfolding moved_by first_of
returns-then-sign-eq0 c = simp (eq-eqb _ _ c.if-sign-eq0.true, le-ltb figure_limit (c.args.old + c.args.value) (omega arith)) refl

-- below 0
pub returns-then-old-value : goal.returns-then-old-value
unfolding moved_by first_of
returns-then-old-value c = simp (ne_eqb _ _ c.if-sign-eq0.false, lt-ltb _ _ c.if-old-value.true)

-- subtracted
pub returns : goal.returns
unfolding moved_by first_of
returns c = simp (ne_eqb _ _ c.if-sign-eq0.false, le-ltb _ _ c.if-old-value.false) refl
