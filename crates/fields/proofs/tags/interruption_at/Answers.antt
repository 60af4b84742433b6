-- `fields::tags::interruption_at` meets its contract.
-- Assumes nothing.
use mathlib.Core.Path.{refl, sym}
use Rattle.calls.specs.Indicators.{indicators_of}
use Rattle.calls.proofs.Flags.{denied, granted}
use Rattle.contents.specs.Content.{is_known, tags, tagged}
use Rattle.fields.specs.Field.{has_tag}
use Rattle.fields.proofs.ContentLaws.{unknown-said}
use Rattle.fields.proofs.tags.interruption_at.Goals as goal

-- 2
pub returns-then-not-takes_interruptions : goal.returns-then-not-takes_interruptions
unfolding has_tag is_known tags
returns-then-not-takes_interruptions c =
    let args = c.args in
    sym (unknown-said (indicators_of args.kind) 3 args.size args.bytes.now args.at (denied c.takes_interruptions.ensures c.if-not-takes_interruptions.true-raw))

pub sized-requires : goal.sized-requires
unfolding is_known tagged tags
sized-requires c = (refl, refl, c.requires)

pub returns : goal.returns
unfolding has_tag is_known tags
returns c = c.sized.ensures _ (granted c.takes_interruptions.ensures c.if-not-takes_interruptions.false-raw)
