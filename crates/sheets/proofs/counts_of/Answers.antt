-- `sheets::counts_of` meets its contract.
-- Assumes nothing.
use mathlib.Core.Path.{refl}
use native.Mathlib.Omega.{arith}
use Rattle.calls.specs.Limits.{first_count}
use Rattle.book.specs.Book.{figure_slot, figure_of}
use Rattle.sheets.specs.Sheet.{counts_of}
use Rattle.sheets.proofs.SheetLaws.{next-slot}
use Rattle.sheets.proofs.counts_of.Goals as goal

pub bounds-b-at-2 : goal.bounds-b-at-2
unfolding figure_slot
bounds-b-at-2 c = omega (arith, c.figure_slot-at.ensures.0, c.requires.0, c.requires.1)

pub bounds-b-at-3 : goal.bounds-b-at-3
unfolding figure_slot
bounds-b-at-3 c = omega (arith, c.figure_slot-at.ensures.0, c.requires.0, c.requires.1)

pub bounds-b-at-4 : goal.bounds-b-at-4
unfolding figure_slot
bounds-b-at-4 c = omega (arith, c.figure_slot-at.ensures.0, c.requires.0, c.requires.1)

pub bounds-b-at-5 : goal.bounds-b-at-5
unfolding figure_slot
bounds-b-at-5 c = omega (arith, c.figure_slot-at.ensures.0, c.requires.0, c.requires.1)

-- five figures in a row
pub returns : goal.returns
unfolding counts_of figure_of
returns c =
    let o = c.args.operator in
    let y = c.args.year in
    rw (c.figure_slot-at.ensures.0, next-slot o y first_count 1, next-slot o y first_count 2, next-slot o y first_count 3, next-slot o y first_count 4) refl
