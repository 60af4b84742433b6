-- `contents::numbers::signed_at` meets its contract.
-- Assumes nothing.
use mathlib.Core.Path.{ap, ◌∙◌}
use mir.Syntax.{w64}
use mir.Val.{SFits}
use Rattle.calls.proofs.Times.{back}
use Rattle.contents.specs.Content.{twos_complement, signed}
use Rattle.contents.proofs.NumberLaws.{bits-signed}
use Rattle.contents.proofs.numbers.signed_at.Goals as goal

pub returns : goal.returns
unfolding signed
returns c =
    let fits : SFits w64 c.cast_signed.result = record { sfits = c.cast_signed.type_inv } in
    back fits ∙ c.cast_signed.ensures ∙ bits-signed _ c.eight_at.type_inv ∙ ap twos_complement c.eight_at.ensures
