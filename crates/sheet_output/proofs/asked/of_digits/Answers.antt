-- `sheet_output::asked::of_digits` meets its contract.
-- Assumes nothing.
use mathlib.Core.Path.{refl, ◌∙◌}
use Rattle.sheet_output.specs.Argument.{value_of, of_digits}
use Rattle.sheet_output.proofs.ArgumentLaws.{no-digit, a-digit, digit-given, value-read}
use Rattle.sheet_output.proofs.asked.of_digits.Goals as goal

-- the first is no digit
pub returns-in_err-digit : goal.returns-in_err-digit
unfolding of_digits
returns-in_err-digit c = c.from_residual.ensures ∙ rw (no-digit c.args.hundreds c.in_err-digit.ensures) refl

-- the second
pub returns-in_err-digit-2 : goal.returns-in_err-digit-2
unfolding of_digits
returns-in_err-digit-2 c =
    c.from_residual-in_err-digit-2.ensures
    ∙ rw (a-digit c.args.hundreds c.in_ok-digit.ensures, no-digit c.args.tens c.in_err-digit-2.ensures) refl

-- the third
pub returns-in_err-value : goal.returns-in_err-value
unfolding of_digits
returns-in_err-value c =
    c.from_residual-in_err-value.ensures
    ∙ rw (
      a-digit c.args.hundreds c.in_ok-digit.ensures,
      a-digit c.args.tens c.in_ok-digit-2.ensures,
      no-digit c.args.ones c.in_err-value.ensures,
    )
    refl

pub returns : goal.returns
unfolding value_of
returns c =
    let args = c.args in
    let hundreds = c.in_ok-digit.ensures in
    let tens = c.in_ok-digit-2.ensures in
    let ones = c.in_ok-value.ensures in
    c.ok.ensures.value
    ∙ value-read args.hundreds args.tens args.ones (a-digit args.hundreds hundreds) (a-digit args.tens tens) (a-digit args.ones ones) c.try_from.result
    (rw (digit-given args.hundreds hundreds, digit-given args.tens tens, digit-given args.ones ones) at c.try_from.ensures)
