-- `book::access::setting_slot` meets its contract.
-- Assumes nothing.
use mathlib.Core.Path.{refl}
use native.Mathlib.Omega.{arith}
use Rattle.book.specs.Book.{setting_slot}
use Rattle.book.proofs.access.setting_slot.Goals as goal

pub returns : goal.returns
unfolding setting_slot
returns c = (refl, omega arith)
