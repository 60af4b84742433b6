-- `writer::put_entries` meets its contract.
-- Assumes nothing.
use mathlib.Core.Path.{◌≡◌, refl, ◌∙◌}
use native.Mathlib.Omega.{arith}
use Rattle.calls.specs.Indicators.{indicators_of}
use Rattle.text.proofs.WrittenLaws.{put-nothing, put_then, room_after}
use Rattle.text.proofs.FittingLaws.{written-front}
use Rattle.writing.specs.Written.{written_as}
use Rattle.entries.specs.Entries.{places}
use Rattle.writer.proofs.SoFarLaws.{so_far, so-far-none, so-far-all, so-far-entry, room-more}
use Rattle.writer.proofs.put_entries.Goals as goal

pub loop-place-init : goal.loop-place-init
loop-place-init c = (rw so-far-none (put-nothing c.args.out.now 0), refl)

pub put_entry-at-requires : goal.put_entry-at-requires
put_entry-at-requires c =
    let here = c.loop-place in
    let entry = c.entry_at.ensures in
    room_after c.args.out.now 0 (so_far (indicators_of c.args.kind) c.args.b.now here.place) _ (room-more (indicators_of c.args.kind) c.args.b.now here.place entry c.args.out.now (omega arith) c.requires) here.invariant.0

pub loop-place-preserved : goal.loop-place-preserved
loop-place-preserved c =
    let here = c.loop-place in
    let entry = c.entry_at.ensures in
    let put = c.put_entry-at in (
      rw (so-far-entry (indicators_of c.args.kind) c.args.b.now here.place entry)
          (put_then c.args.out.now 0 (so_far (indicators_of c.args.kind) c.args.b.now here.place) _ (room-more (indicators_of c.args.kind) c.args.b.now here.place entry c.args.out.now (omega arith) c.requires) here.invariant.0 put.ensures),
      put.auto.out ∙ here.invariant.1,
    )

pub returns : goal.returns
returns c =
    let here = c.loop-place in
    let last : here.place ≡ places = omega arith in
    here.invariant.0.0 ∙ rw (last, so-far-all) (written-front c.args.out.now (written_as (indicators_of c.args.kind) c.args.b.now))
