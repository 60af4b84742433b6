-- `contents::contents::call_at` meets its contract.
-- Assumes nothing.
use mathlib.Core.Path.{◌≡◌, refl}
use native.Mathlib.Nat.{add-zero}
use native.Mathlib.Omega.{arith}
use Rattle.contents.specs.Content.{tags, tagged}
use Rattle.contents.proofs.NumberLaws.{byte-in}
use Rattle.contents.proofs.TagLaws.{known}
use Rattle.contents.proofs.contents.call_at.Goals as goal

pub bounds-bytes-at : goal.bounds-bytes-at
unfolding tagged tags
bounds-bytes-at c = let room = rw c.in-1.is at c.requires.1 in omega (arith, room)

pub setting_at-requires : goal.setting_at-requires
unfolding tagged tags
setting_at-requires c = rw c.in-2.is at c.requires.1

pub interruption_at-requires : goal.interruption_at-requires
unfolding tagged tags
interruption_at-requires c = rw c.in-3.is at c.requires.1

pub amount_at-requires : goal.amount_at-requires
unfolding tagged tags
amount_at-requires c = rw c.in-4.is at c.requires.1

pub mark_at-requires : goal.mark_at-requires
unfolding tagged tags
mark_at-requires c = rw c.in-5.is at c.requires.1

pub rates_at-requires : goal.rates_at-requires
unfolding tagged tags
rates_at-requires c = rw c.in-6.is at c.requires.1

pub index_at-requires : goal.index_at-requires
unfolding tagged tags
index_at-requires c =
    let range = known c.args.tag c.requires.0 in
    let seven : c.args.tag ≡ 7 = omega arith in
    rw seven at c.requires.1

-- tag 1, join
pub returns-in-1 : goal.returns-in-1
unfolding tagged tags
returns-in-1 c =
    rw (c.in-1.is, byte-in c.args.bytes.now c.args.at 1 0 (omega arith), add-zero) refl

-- tag 2, setting
pub returns-in-2 : goal.returns-in-2
unfolding tagged tags
returns-in-2 c = rw c.in-2.is c.setting_at.ensures

-- tag 3, interruption
pub returns-in-3 : goal.returns-in-3
unfolding tagged tags
returns-in-3 c = rw c.in-3.is c.interruption_at.ensures

-- tag 4, amount
pub returns-in-4 : goal.returns-in-4
unfolding tagged tags
returns-in-4 c = rw c.in-4.is c.amount_at.ensures

-- tag 5, mark
pub returns-in-5 : goal.returns-in-5
unfolding tagged tags
returns-in-5 c = rw c.in-5.is c.mark_at.ensures

-- tag 6, rates
pub returns-in-6 : goal.returns-in-6
unfolding tagged tags
returns-in-6 c = rw c.in-6.is c.rates_at.ensures

-- tag 7, index
pub returns-in_default : goal.returns-in_default
unfolding tagged tags
returns-in_default c =
    let range = known c.args.tag c.requires.0 in
    let seven : c.args.tag ≡ 7 = omega arith in
    rw seven c.index_at.ensures
