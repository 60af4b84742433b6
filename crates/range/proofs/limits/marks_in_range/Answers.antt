-- `range::limits::marks_in_range` meets its contract.
-- Assumes nothing.
use Rattle.std.proofs.Common.{rules, tests}
use mathlib.Core.Path.{◌≡◌, ◌∙◌}
use Prim.Native.Nat.{ℕ}
use mathlib.Core.Bool.{not, ◌&&◌, ◌||◌}
use lib.ListN.{length}
use Rattle.std.proofs.lemmas.Iterator.{YieldsList-from_slice}
use Rattle.std.proofs.lemmas.Iterator.Search.{all_from_yields_List}
use Rattle.calls.specs.Limits.{operators, indicator_count}
use Rattle.calls.specs.Masks.{has}
use Rattle.book.specs.Book.{every, has_sixteen_bits}
use Rattle.book.proofs.EveryLaws.{all-elements, told-by-every}
use Rattle.book.proofs.FlatRange.{mark_test, marks-hold, marks-fail}
use Rattle.range.proofs.limits.marks_in_range.Goals as goal

pub returns : goal.returns
returns c =
    let b = c.args.b in
    let long : length b.marks ≡ indicator_count = search rules in
    let test = λ (mask : ℕ). has_sixteen_bits mask && every operators (λ (operator : ℕ). not (has mask operator) || has b.joined operator) in
    all_from_yields_List test _ _ _ c.all.ensures.ran (YieldsList-from_slice b.marks cc) (λ x b q k. search (rules, tests))
    ∙ (rw long at (all-elements b.marks test)) ∙ told-by-every indicator_count (mark_test b) (marks-hold b) (marks-fail b)
