-- `posting::in_place::join` meets its contract.
-- Assumes nothing.
use mathlib.Core.Path.{◌≡◌, refl, sym, ◌∙◌}
use mathlib.Core.Bool.{false}
use native.Mathlib.Omega.{arith}
use borrow.Author.Tests.{lt-leb, le-leb}
use Rattle.calls.specs.declared.Call.TheVariants.{Join}
use Rattle.calls.specs.Masks.{has}
use Rattle.book.specs.Book.{is_joined}
use Rattle.calls.specs.Indicators.{indicators_of, some}
use Rattle.calls.specs.Call.{facts_of}
use Rattle.ledger.specs.Calls.{unattested, changed}
use Rattle.ledger.proofs.AdmissionLaws.{unknown-operator, already-joined, done}
use borrow.Author.Rules.{rules}
use Rattle.posting.proofs.in_place.join.Goals as goal

-- 4
pub returns-then-operator-gt-LAST_OPERATOR : goal.returns-then-operator-gt-LAST_OPERATOR
unfolding facts_of some
returns-then-operator-gt-LAST_OPERATOR c =
    rw (unknown-operator (indicators_of c.args.kind) c.args.b.now (Join c.args.operator) refl (rw (le-leb 16 c.args.operator c.if-operator-gt-LAST_OPERATOR.true) refl)) (refl, refl)

-- 6
pub returns-then-has_bit : goal.returns-then-has_bit
unfolding facts_of some is_joined
returns-then-has_bit c =
    rw (already-joined (indicators_of c.args.kind) c.args.b.now (Join c.args.operator) refl (rw (lt-leb 16 c.args.operator (omega arith)) refl) refl refl refl (rw (sym c.has_bit.ensures ∙ c.if-has_bit.true) refl)) (refl, refl)

pub mark_unattested-requires : goal.mark_unattested-requires
mark_unattested-requires c = (omega arith, search rules)

-- joined
pub returns : goal.returns
unfolding facts_of some is_joined changed
returns c =
    let free : has c.args.b.now.joined c.args.operator ≡ false = sym c.has_bit.ensures ∙ c.if-has_bit.false in
    let marked : c.mark_unattested.new.marks ≡ unattested (indicators_of c.args.kind) c.args.b.now.marks c.args.operator = c.mark_unattested.ensures in
    rw (done (indicators_of c.args.kind) c.args.b.now (Join c.args.operator) refl (rw (lt-leb 16 c.args.operator (omega arith)) refl) refl refl refl (rw free refl) refl refl, ← c.include_bit-b.ensures, ← marked) (refl, refl)
