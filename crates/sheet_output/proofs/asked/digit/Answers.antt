-- `sheet_output::asked::digit` meets its contract.
-- Assumes nothing.
use Prim.Native.Nat.{◌-◌}
use mathlib.Core.Bool.{cond}
use mathlib.Core.Path.{ap, ◌∙◌}
use Rattle.std.specs.Prelude.{Some, None}
use Rattle.sheet_output.specs.Argument.{is_digit}
use Rattle.sheet_output.proofs.asked.digit.Goals as goal

pub returns-then-not-is_ascii_digit : goal.returns-then-not-is_ascii_digit
unfolding is_digit
returns-then-not-is_ascii_digit c = λ i. cond (c.if-not-is_ascii_digit.ensures.value i) (Some (c.args.byte - 48)) None

pub returns : goal.returns
unfolding is_digit
returns c = ap Some c.from.ensures ∙ (λ i. cond (c.if-not-is_ascii_digit.ensures.value i) (Some (c.args.byte - 48)) None)
