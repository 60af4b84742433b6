-- `calls::masks::remask` meets its contract.
-- Assumes nothing.
use borrow.Author.Tests.{eq-eqb, ne_eqb}
use Rattle.calls.specs.Masks.{remasked}
use Rattle.calls.proofs.masks.remask.Goals as goal

pub returns-then-mark-eq1 : goal.returns-then-mark-eq1
unfolding remasked
returns-then-mark-eq1 c = rw (eq-eqb _ _ c.if-mark-eq1.true) c.include_bit.ensures

pub returns : goal.returns
unfolding remasked
returns c = rw (ne_eqb _ _ c.if-mark-eq1.false) c.exclude_bit.ensures
