-- `values::measures::figure_in` meets its contract.
-- Assumes nothing.
use mathlib.Core.Path.{refl}
use Rattle.book.specs.Book.{figure_of}
use Rattle.values.proofs.measures.figure_in.Goals as goal

pub returns-clause-value : goal.returns-clause-value
unfolding figure_of
returns-clause-value c = rw c.figure_slot.ensures.0 refl

pub returns-clause-most : goal.returns-clause-most
unfolding figure_of
returns-clause-most c =
    let there = c.requires.figure_there in
    rw c.figure_slot.ensures.0 (c.args.m.within.figures_within _ _ _ there.operator_known there.year_known there.figure_known)
