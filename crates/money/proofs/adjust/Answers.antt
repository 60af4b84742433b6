-- `money::adjust` meets its contract.
-- Assumes nothing.
use native.Mathlib.Omega.{arith}
use Rattle.apportion.specs.Sum.{sum}
use mathlib.Core.Path.{ap, ◌≡◌, refl, ◌∙◌}
use native.Mathlib.Nat.{lt_of_le_of_lt}
use lib.Dec.{lit<}
use Rattle.money.specs.Money.{balanced, adjusted_by}
use Rattle.money.proofs.Amounts.{cut-sums-small, balanced-le}
use Rattle.money.proofs.adjust.Goals as goal

pub balanced_side-gains-requires : goal.balanced_side-gains-requires
balanced_side-gains-requires c =
    let small = cut-sums-small c.args.received c.args.paid c.args.limits c.requires in
    omega (arith, ap sum c.capped_side-bonuses.ensures, ap sum c.capped_side-maluses.ensures)

pub balanced_side-losses-requires : goal.balanced_side-losses-requires
balanced_side-losses-requires c =
    let small = cut-sums-small c.args.received c.args.paid c.args.limits c.requires in
    omega (arith, ap sum c.capped_side-bonuses.ensures, ap sum c.capped_side-maluses.ensures)

pub differences-requires : goal.differences-requires
differences-requires c =
    let args = c.args in
    let small = c.requires in (
      λ k lt.
          rw (c.balanced_side-gains.ensures, c.capped_side-bonuses.ensures)
          (lt_of_le_of_lt (balanced-le args.received args.paid args.limits small _ _ k lt) (lit< tt)),
      λ k lt.
          rw (c.balanced_side-losses.ensures, c.capped_side-maluses.ensures)
          (lt_of_le_of_lt (balanced-le args.paid args.received args.limits small _ _ k lt) (lit< tt)),
    )

pub returns : goal.returns
unfolding adjusted_by
returns c =
    let losses : c.balanced_side-losses.result ≡ balanced c.capped_side-maluses.result c.capped_side-bonuses.result c.args.sizes =
    c.balanced_side-losses.ensures in
    c.differences.ensures
    ∙ rw (c.balanced_side-gains.ensures, losses, c.capped_side-bonuses.ensures, c.capped_side-maluses.ensures) refl
