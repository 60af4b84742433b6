-- `contents::numbers::four_at` meets its contract.
-- Assumes nothing.
use mathlib.Core.Path.{◌∙◌}
use Rattle.contents.proofs.NumberLaws.{chunk-same, unsigned-four}
use Rattle.contents.proofs.numbers.four_at.Goals as goal

pub returns : goal.returns
returns c =
    let bytes = c.args.bytes.now in
    let at = c.args.at in
    let first = rw c.unwrap.ensures at c.first_chunk.ensures.cases in
    c.from_be_bytes.ensures ∙ unsigned-four bytes _ at c.requires (chunk-same bytes c.unwrap.result.now at 4 c.requires first.same)
