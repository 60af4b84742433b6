-- `text::digit_count` meets its contract.
-- Assumes nothing.
use native.Mathlib.Nat.{pow-suc}
use native.Mathlib.Omega.{arith}
use Rattle.text.proofs.DigitLaws.{decimal-length, decimal-longer}
use Rattle.text.proofs.digit_count.Goals as goal

pub returns : goal.returns
returns c =
    let power = c.ilog10.result in
    let bounds = c.ilog10.ensures in
    let most = decimal-length power c.args.n (omega (arith, bounds.next_power_gt, pow-suc 10 power, c.max.ensures)) in
    let least = decimal-longer power c.args.n (rw c.max.ensures at bounds.power_le) in
    omega (arith, most, least)
