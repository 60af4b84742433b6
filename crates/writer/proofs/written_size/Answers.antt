-- `writer::written_size` meets its contract.
-- Assumes nothing.
use mathlib.Core.Path.{◌≡◌, refl, ◌∙◌}
use native.Mathlib.Omega.{arith}
use Rattle.entries.specs.Entries.{places}
use Rattle.writer.proofs.SoFarLaws.{so-far-none, so-far-all, size-more}
use Rattle.writer.proofs.written_size.Goals as goal

pub loop-place-init : goal.loop-place-init
loop-place-init c = (rw so-far-none refl, omega arith)

pub loop-place-preserved : goal.loop-place-preserved
loop-place-preserved c =
    let here = c.loop-place in
    let entry = c.entry_at.ensures in (
      rw (here.invariant.0, c.size_of-size.ensures) (size-more _ _ here.place entry),
      omega (arith, entry.short, c.size_of-size.ensures, here.invariant.1),
    )

pub returns : goal.returns
returns c =
    let here = c.loop-place in
    let last : here.place ≡ places = omega arith in
    here.invariant.0 ∙ rw (last, so-far-all) refl
