-- `entries::is_cleared` meets its contract.
-- Assumes nothing.
use mathlib.Core.Path.{◌≡◌, refl, sym, ◌∙◌}
use mathlib.Core.Bool.{true}
use Rattle.calls.specs.Masks.{has}
use Rattle.calls.proofs.Flags.{and-false-right}
use Rattle.entries.proofs.is_cleared.Goals as goal

-- marked
pub returns-then-has_bit : goal.returns-then-has_bit
returns-then-has_bit c =
    let marked : has c.args.marked c.args.operator ≡ true = sym c.has_bit.ensures ∙ c.if-has_bit.true in
    rw (marked, and-false-right c.args.taken, and-false-right (has c.args.joined c.args.operator)) refl
