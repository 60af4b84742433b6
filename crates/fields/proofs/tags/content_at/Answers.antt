-- `fields::tags::content_at` meets its contract.
-- Assumes nothing.
use mathlib.Core.Path.{◌≡◌, refl, sym}
use mathlib.Core.Bool.{false}
use Prim.Native.Nat.{ℕ}
use Rattle.calls.specs.declared.Kind.{Kind}
use Rattle.calls.specs.Indicators.{indicators_of}
use Rattle.fields.specs.Field.{has_tag}
use Rattle.contents.specs.Content.{is_known, tags, tagged}
use Rattle.contents.proofs.TagLaws.{not_listed}
use Rattle.fields.proofs.ContentLaws.{unknown-said}
use Rattle.fields.proofs.tags.content_at.Goals as goal

-- a tag that is not in the table is in no kind's
unlisted : (kind : Kind) (tag : ℕ) → is_known tag ≡ false → has_tag (indicators_of kind) tag ≡ false
unfolding has_tag
unlisted kind tag none = rw none refl

pub sized-requires : goal.sized-requires
unfolding is_known tagged tags
sized-requires c = (refl, refl, c.requires)

pub sized-requires-in-2 : goal.sized-requires-in-2
unfolding is_known tagged tags
sized-requires-in-2 c = (refl, refl, c.requires)

pub interruption_at-requires : goal.interruption_at-requires
interruption_at-requires c = c.requires

pub sized-requires-in-4 : goal.sized-requires-in-4
unfolding is_known tagged tags
sized-requires-in-4 c = (refl, refl, c.requires)

pub sized-requires-in-5 : goal.sized-requires-in-5
unfolding is_known tagged tags
sized-requires-in-5 c = (refl, refl, c.requires)

pub sized-requires-in-6 : goal.sized-requires-in-6
unfolding is_known tagged tags
sized-requires-in-6 c = (refl, refl, c.requires)

pub sized-requires-in-7 : goal.sized-requires-in-7
unfolding is_known tagged tags
sized-requires-in-7 c = (refl, refl, c.requires)

pub returns-in-1 : goal.returns-in-1
unfolding has_tag is_known tags
returns-in-1 c = rw c.in-1.is (c.sized.ensures _ refl)

pub returns-in-2 : goal.returns-in-2
unfolding has_tag is_known tags
returns-in-2 c = rw c.in-2.is (c.sized-in-2.ensures _ refl)

pub returns-in-3 : goal.returns-in-3
returns-in-3 c = rw c.in-3.is c.interruption_at.ensures

pub returns-in-4 : goal.returns-in-4
unfolding has_tag is_known tags
returns-in-4 c = rw c.in-4.is (c.sized-in-4.ensures _ refl)

pub returns-in-5 : goal.returns-in-5
unfolding has_tag is_known tags
returns-in-5 c = rw c.in-5.is (c.sized-in-5.ensures _ refl)

pub returns-in-6 : goal.returns-in-6
unfolding has_tag is_known tags
returns-in-6 c = rw c.in-6.is (c.sized-in-6.ensures _ refl)

pub returns-in-7 : goal.returns-in-7
unfolding has_tag is_known tags
returns-in-7 c = rw c.in-7.is (c.sized-in-7.ensures _ refl)

-- 2
pub returns-in_default : goal.returns-in_default
returns-in_default c =
    let args = c.args in
    let rest = c.in_default.in_default-own.rest in
    sym (unknown-said (indicators_of args.kind) args.tag args.size args.bytes.now args.at (unlisted args.kind args.tag (not_listed args.tag rest.0.0.0.0.0.0.1 rest.0.0.0.0.0.1 rest.0.0.0.0.1 rest.0.0.0.1 rest.0.0.1 rest.0.1 rest.1)))
