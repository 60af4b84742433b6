-- `range::limits::indices_in_range` meets its contract.
-- Assumes nothing.
use Rattle.std.proofs.Common.{rules, tests}
use mathlib.Core.Path.{◌≡◌, ◌∙◌}
use Prim.Native.Nat.{ℕ}
use mathlib.Core.Bool.{◌&&◌}
use lib.Dec.{leb}
use lib.ListN.{length}
use Rattle.std.proofs.lemmas.Iterator.{YieldsList-from_slice}
use Rattle.std.proofs.lemmas.Iterator.Search.{all_from_yields_List}
use Rattle.calls.specs.Limits.{index_count, index_least, index_most}
use Rattle.book.specs.Book.{indices_in_range, index_of}
use Rattle.book.proofs.EveryLaws.{all-elements}
use Rattle.range.proofs.limits.indices_in_range.Goals as goal

pub returns : goal.returns
unfolding indices_in_range index_of
returns c =
    let b = c.args.b in
    let long : length b.indices ≡ index_count = search rules in
    let test = λ (value : ℕ). leb index_least value && leb value index_most in
    all_from_yields_List test _ _ _ c.all.ensures.ran (YieldsList-from_slice b.indices cc) (λ x b q k. search (rules, tests))
    ∙ (rw long at (all-elements b.indices test))
