-- `sheet_output::asked::argument_of` meets its contract.
-- Assumes nothing.
use mathlib.Core.Path.{refl}
use native.Mathlib.Omega.{arith}
use lib.ListN.{length}
use borrow.Author.Tests.{eq-eqb, ne_eqb}
use Rattle.sheet_output.specs.Argument.{argument_of}
use Rattle.sheet_output.proofs.asked.argument_of.Goals as goal

pub returns-in-len1 : goal.returns-in-len1
unfolding argument_of
returns-in-len1 c = let long = length c.args.text.now in rw (eq-eqb long 1 (omega arith)) c.of_digits.ensures

pub returns-in-len2 : goal.returns-in-len2
unfolding argument_of
returns-in-len2 c = let long = length c.args.text.now in rw (ne_eqb long 1 (omega arith), eq-eqb long 2 (omega arith)) c.of_digits-in-len2.ensures

pub returns-in-len3 : goal.returns-in-len3
unfolding argument_of
returns-in-len3 c =
    let long = length c.args.text.now in
    rw (ne_eqb long 1 (omega arith), ne_eqb long 2 (omega arith), eq-eqb long 3 (omega arith)) c.of_digits-in-len3.ensures

-- none
pub returns-in_default : goal.returns-in_default
unfolding argument_of
returns-in_default c =
    let long = length c.args.text.now in
    rw (ne_eqb long 1 (omega arith), ne_eqb long 2 (omega arith), ne_eqb long 3 (omega arith)) refl

-- four or more
pub returns-in_default-2 : goal.returns-in_default-2
unfolding argument_of
returns-in_default-2 c =
    let long = length c.args.text.now in
    rw (ne_eqb long 1 (omega arith), ne_eqb long 2 (omega arith), ne_eqb long 3 (omega arith)) refl
