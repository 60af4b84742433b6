-- A filing written up to a place.
-- Assumes nothing.
use Prim.Native.Nat.{ℕ, ◌+◌, ◌-◌, ◌≤◌}
use mathlib.Core.Path.{◌≡◌, refl, sym, ap, ◌∙◌}
use mathlib.Core.List.{List, [], ◌++◌}
use native.Mathlib.Numerals.{add-one}
use native.Mathlib.Omega.{arith}
use lib.ListN.{length, length-append}
use Rattle.book.specs.declared.Book.{Book}
use Rattle.calls.specs.Indicators.{Indicator}
use Rattle.writing.specs.Written.{in_turn, filing_of, written_as}
use Rattle.writing.proofs.WrittenLength.{filing-then}
use Rattle.encoding.specs.declared.Encoded.{Encoded}
use Rattle.std.specs.Prelude.{Option}
use Rattle.entries.specs.Entries.{places, entry_bytes, EntryOf, calls_at}
use Rattle.entries.proofs.PlaceLaws.{turns-split, all_placed}

unfoldable pub so_far : List Indicator → Book → ℕ → List ℕ
so_far kind b place = filing_of (in_turn place (calls_at kind b))

module _ (kind : List Indicator) (b : Book) where
  pub so-far-none : so_far kind b 0 ≡ []
  unfolding so_far in_turn filing_of
  so-far-none = refl

  pub so_far_more : (place : ℕ) → so_far kind b (place + 1) ≡ so_far kind b place ++ filing_of (calls_at kind b place)
  unfolding so_far in_turn
  so_far_more place = rw (add-one place) (filing-then (in_turn place (calls_at kind b)) (calls_at kind b place))

  pub so-far-all : so_far kind b places ≡ written_as kind b
  unfolding so_far written_as
  so-far-all = ap filing_of (sym (all_placed kind b))

  -- a part is no longer than the whole
  pub so-far-within : (place : ℕ) → place ≤ places → length (so_far kind b place) ≤ length (written_as kind b)
  unfolding so_far
  so-far-within place le =
      let rest : place + (places - place) ≡ places = omega arith in
      let whole : so_far kind b (place + (places - place)) ≡ so_far kind b place ++ filing_of (in_turn (places - place) (λ (k : ℕ). calls_at kind b (place + k))) =
      ap filing_of (turns-split place (places - place) (calls_at kind b)) ∙ filing-then (in_turn place (calls_at kind b)) _ in
      rw (← so-far-all, ← rest, whole, length-append) (omega arith)

  -- the entry at the next place
  module _ (place : ℕ) {entry : Option Encoded} (here : EntryOf entry (calls_at kind b place)) where
    pub so-far-entry : so_far kind b (place + 1) ≡ so_far kind b place ++ entry_bytes entry
    so-far-entry = so_far_more place ∙ ap (λ (bytes : List ℕ). so_far kind b place ++ bytes) (sym here.bytes)

    pub size-more : length (so_far kind b place) + length (entry_bytes entry) ≡ length (so_far kind b (place + 1))
    size-more = rw (so-far-entry, length-append) refl

    pub room-more : (old : List ℕ) → place + 1 ≤ places → length (written_as kind b) ≤ length old → 0 + length (so_far kind b place ++ entry_bytes entry) ≤ length old
    room-more old le room = rw (← so-far-entry) (omega (arith, so-far-within (place + 1) le))
