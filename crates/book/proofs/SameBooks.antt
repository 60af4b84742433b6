-- Two books in range that hold the same are equal.
-- Assumes nothing.
use Prim.Native.Nat.{ℕ, ◌/◌, ◌%◌, ◌<◌}
use mathlib.Core.Path.{◌≡◌, sym, subst, ◌∙◌}
use mathlib.Core.List.{List}
use native.Mathlib.Omega.{arith}
use lib.ListN.{length, get_or}
use lib.Seq.{ext_get_or}
use Rattle.book.specs.declared.Book.{Book}
use Rattle.calls.specs.Limits.{operators, years, figure_count, setting_count, indicator_count, index_count, setting_places, operator_figures, figure_places}
use Rattle.calls.specs.Held.{Same}
use Rattle.book.specs.Book.{is_joined, is_marked, setting_of, figure_of, index_of, held_by}
use Rattle.calls.proofs.MaskLaws.{same_bits}
use Rattle.book.proofs.SlotLaws.{setting-place, figure-place}
use Rattle.book.proofs.Bounds.{Bounds}

-- two lists of one length with the same elements
same-list : (l m : List ℕ) (n : ℕ) → length l ≡ n → length m ≡ n → ((i : ℕ) → i < n → get_or l i 0 ≡ get_or m i 0) → l ≡ m
same-list l m n ll lm each = ext_get_or 0 l m (ll ∙ sym lm) (λ i lt. each i (rw ll at lt))

module _ (b c : Book) (in_b : Bounds b) (in_c : Bounds c) (same : Same (held_by b) (held_by c)) where
  same-joined : b.joined ≡ c.joined
  unfolding is_joined
  same-joined = same_bits operators _ _ in_b.joined in_c.joined same.joined

  same-marks : b.marks ≡ c.marks
  unfolding is_marked
  same-marks =
      same-list _ _ indicator_count in_b.marks.long in_c.marks.long
      (λ i li. same_bits operators _ _ (in_b.marks.small i li) (in_c.marks.small i li) (λ o lt. same.mark o i lt li))

  same-settings : b.settings ≡ c.settings
  unfolding setting_of
  same-settings =
      same-list _ _ setting_places in_b.settings.long in_c.settings.long
      (λ i lt. subst (λ (n : ℕ). get_or b.settings n 0 ≡ get_or c.settings n 0) (setting-place i)
      (same.setting (i / setting_count) (i % setting_count) (omega arith) (omega arith)))

  same-figures : b.figures ≡ c.figures
  unfolding figure_of
  same-figures =
      same-list _ _ figure_places in_b.figures.long in_c.figures.long
      (λ i lt. subst (λ (n : ℕ). get_or b.figures n 0 ≡ get_or c.figures n 0) (figure-place i)
      (same.total (i / operator_figures) (i / figure_count % years) (i % figure_count) (omega arith) (omega arith) (omega arith)))

  same-indices : b.indices ≡ c.indices
  unfolding index_of
  same-indices = same-list _ _ index_count in_b.indices.long in_c.indices.long same.index

  pub same_books : b ≡ c
  same_books =
      λ i.
      record {
        joined = same-joined i;
        marks = same-marks i;
        settings = same-settings i;
        figures = same-figures i;
        pot_rate = same.pot_rate i;
        cap_rate = same.cap_rate i;
        indices = same-indices i;
      }
