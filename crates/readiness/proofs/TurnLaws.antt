-- Numbers asked in turn: any that passes a test, and all indicators from one on at which nobody takes part.
-- Assumes nothing.
use Prim.Native.Nat.{ℕ, zero, suc, ◌+◌, ◌<◌}
use mathlib.Core.Path.{◌≡◌, refl, sym, ap, ◌∙◌}
use mathlib.Core.Bool.{Bool, true, false, ◌&&◌, ◌||◌}
use mathlib.Core.List.{◌∷◌}
use native.Mathlib.Numerals.{add-one}
use native.Mathlib.Omega.{arith}
use lib.Dec.{eqb}
use lib.ListN.{drop}
use lib.Seq.{drop-cons}
use Rattle.std.specs.List.{range_with_len, list_any, list_all}
use Rattle.calls.specs.Limits.{indicator_count}
use Rattle.calls.specs.Indicators.{electricity}
use Rattle.book.specs.declared.Book.{Book}
use Rattle.book.specs.Book.{within_limits}
use Rattle.values.specs.Indicator.{numbered, reliable_mask}
use Rattle.values.specs.Operators.{any}
use Rattle.values.specs.Parts.{HasMarks}
use Rattle.values.proofs.Numbered.{numbered-at}
use Rattle.readiness.specs.Readiness.{all_marked}
use Rattle.readiness.proofs.MarkLaws.{marked-none, marked_more}

or-assoc : (s t u : Bool) → s || (t || u) ≡ (s || t) || u
or-assoc true t u = refl
or-assoc false t u = refl

or-false : (s : Bool) → s || false ≡ s
or-false true = refl
or-false false = refl

module _ (test : ℕ → Bool) where
  any-from : (a n m : ℕ) → a + n ≡ m → any a test || list_any test (range_with_len a n) ≡ any m test
  unfolding any
  any-from a zero m e =
      let same : a ≡ m = omega arith in
      rw same (or-false _)
  any-from a (suc n) m e = rw (or-assoc, add-one) (any-from (suc a) n m (omega arith))

  -- asked from 0 on, it is any below
  pub any-in-turn : (n : ℕ) → list_any test (range_with_len 0 n) ≡ any n test
  unfolding any
  any-in-turn n = any-from 0 n n (omega arith)

-- nobody takes part at an indicator, which a book's operators and marks tell
abbrev pub nobody : Book → ℕ → Bool
nobody b number = eqb (reliable_mask b (numbered number)) 0

mask-same : (b other : Book) → HasMarks other b.joined b.marks → (number : ℕ) → reliable_mask b (numbered number) ≡ reliable_mask other (numbered number)
unfolding reliable_mask
mask-same b other marked number = rw (marked.joined_are, marked.marks_are) refl

pub nobody-same : (b other : Book) → HasMarks other b.joined b.marks → nobody b ≡ nobody other
nobody-same b other marked = λ i number. eqb (mask-same b other marked number i) 0

module _ (b : Book) (ranged : within_limits b ≡ true) where
  -- the next indicator, and those after it
  next : (n : ℕ) → n < indicator_count → drop n electricity ≡ numbered n ∷ drop (n + 1) electricity
  unfolding electricity
  next n lt = rw (add-one, ← numbered-at n (numbered 0) lt) (drop-cons electricity n (numbered 0) lt)

  pub marked-in-turn : (number left : ℕ) → number + left ≡ indicator_count → list_all (nobody b) (range_with_len number left) ≡ all_marked b (drop number electricity)
  unfolding electricity
  marked-in-turn number zero all =
      let last : number ≡ indicator_count = omega arith in
      rw last (sym (marked-none b))
  marked-in-turn number (suc left) all =
      ap (λ (t : Bool). nobody b number && t) (marked-in-turn (number + 1) left (omega arith))
      ∙ sym (ap (all_marked b) (next number (omega arith)) ∙ marked_more b ranged (numbered number) (drop (number + 1) electricity))
