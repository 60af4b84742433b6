-- `text::put_word` meets its contract.
-- Assumes nothing.
use mathlib.Core.Path.{refl, ◌∙◌}
use native.Mathlib.Omega.{arith}
use Rattle.std.proofs.lemmas.Slice.{put_mid-paste}
use lib.ListN.{length}
use Rattle.text.proofs.WrittenLaws.{written-paste}
use Rattle.text.proofs.put_word.Goals as goal

pub returns : goal.returns
returns c =
    let word = c.args.word.now in
    (put_mid-paste c.args.at _ c.args.out.now _ word (length word) c.copy_from_slice.ensures.after (omega arith) refl ∙ written-paste _ _ word, refl)
