-- The range of a book, tested as the code does it: settings place by place, figures operator by operator, marks by masks.
-- Assumes nothing.
use mathlib.Core.Path.{◌≡◌, refl, sym, ap, ◌∙◌}
use mathlib.Core.Bool.{Bool, true, false, cond, not, ◌&&◌, ◌||◌}
use Prim.Native.Nat.{ℕ, ◌+◌, ◌*◌, ◌/◌, ◌%◌, ◌^◌, ◌<◌}
use native.Mathlib.Omega.{arith}
use lib.Bits.{bit_and, and_le_l}
use lib.Dec.{leb, eqb}
use lib.ListN.{get_or}
use borrow.Author.Tests.{eqb-true, eq-eqb}
use Rattle.book.specs.declared.Book.{Book}
use Rattle.calls.specs.Limits.{operators, years, figure_count, setting_count, indicator_count, setting_places, operator_figures, setting_limit, figure_limit}
use Rattle.calls.specs.Masks.{has}
use Rattle.book.specs.Book.{is_joined, is_marked, setting_slot, setting_of, figure_slot, figure_of, most, has_sixteen_bits, settings_in_range, figures_in_range, marks_in_range}
use Rattle.book.specs.Book.{every}
use Rattle.calls.proofs.Flags.{same_test}
use Rattle.calls.proofs.MaskLaws.{and-has, same_bits}
use Rattle.book.proofs.EveryLaws.{every-of-each, each-of-every, every-fails}

module _ (b : Book) where
  abbrev pub setting_test : ℕ → Bool
  setting_test k = leb (get_or b.settings k 0) (cond (has b.joined (k / setting_count)) (setting_limit (k % setting_count)) 0)

  -- a figure among all of its operator
  abbrev pub figure_test : ℕ → ℕ → Bool
  figure_test operator k = leb (get_or b.figures (operator * operator_figures + k) 0) (cond (has b.joined operator) figure_limit 0)

  -- a place is that of its parts
  pub settings-hold : ((k : ℕ) → k < setting_places → setting_test k ≡ true) → settings_in_range b ≡ true
  unfolding settings_in_range setting_slot setting_of most is_joined
  settings-hold all =
      every-of-each operators _ (λ operator lo. every-of-each setting_count _ (λ which lw. one operator which lo lw))
    where
      one : (operator which : ℕ) → operator < operators → which < setting_count → leb (setting_of b operator which) (most b.joined operator (setting_limit which)) ≡ true
      one operator which lo lw =
          let quotient : (operator * setting_count + which) / setting_count ≡ operator = omega arith in
          let rest : (operator * setting_count + which) % setting_count ≡ which = omega arith in
          rw (quotient, rest) at (all (operator * setting_count + which) (omega arith))

  pub settings-fail : (k : ℕ) → k < setting_places → setting_test k ≡ false → settings_in_range b ≡ false
  unfolding settings_in_range setting_slot setting_of most is_joined
  settings-fail k lt failed =
      let back : k / setting_count * setting_count + k % setting_count ≡ k = omega arith in
      every-fails operators _ (k / setting_count) (omega arith) (every-fails setting_count _ (k % setting_count) (omega arith) (rw back failed))

  -- the figures of an operator, in a row and by their years
  figures-by-years : (operator : ℕ) → every operator_figures (figure_test operator)
      ≡ every years (λ (year : ℕ). every figure_count (λ (figure : ℕ). leb (figure_of b operator year figure) (most b.joined operator figure_limit)))
  unfolding figure_slot figure_of most is_joined
  figures-by-years operator =
      same_test _ _ (λ all. every-of-each years _ (λ year ly. every-of-each figure_count _ (λ figure lf. placed all year figure ly lf)))
      (λ all. every-of-each operator_figures _ (λ k lt. named all k lt))
    where
      placed : every operator_figures (figure_test operator) ≡ true → (year figure : ℕ) → year < years → figure < figure_count
          → leb (figure_of b operator year figure) (most b.joined operator figure_limit) ≡ true
      placed all year figure ly lf =
          let place : operator * operator_figures + (year * figure_count + figure) ≡ (operator * years + year) * figure_count + figure = omega arith in
          rw place at (each-of-every operator_figures (figure_test operator) all (year * figure_count + figure) (omega arith))

      named : every years (λ (year : ℕ). every figure_count (λ (figure : ℕ). leb (figure_of b operator year figure) (most b.joined operator figure_limit))) ≡ true
          → (k : ℕ) → k < operator_figures → figure_test operator k ≡ true
      named all k lt =
          let place : (operator * years + k / figure_count) * figure_count + k % figure_count ≡ operator * operator_figures + k = omega arith in
          rw place at (each-of-every figure_count _ (each-of-every years _ all (k / figure_count) (omega arith)) (k % figure_count) (omega arith))

  pub figures-hold : ((operator : ℕ) → operator < operators → every operator_figures (figure_test operator) ≡ true) → figures_in_range b ≡ true
  unfolding figures_in_range
  figures-hold all = every-of-each operators _ (λ operator lo. sym (figures-by-years operator) ∙ all operator lo)

  pub figures-fail : (operator : ℕ) → operator < operators → every operator_figures (figure_test operator) ≡ false → figures_in_range b ≡ false
  unfolding figures_in_range
  figures-fail operator lo failed = every-fails operators _ operator lo (sym (figures-by-years operator) ∙ failed)

  -- the marks of an indicator
  abbrev pub mark_test : ℕ → Bool
  mark_test indicator =
      has_sixteen_bits (get_or b.marks indicator 0) && every operators (λ (operator : ℕ). not (has (get_or b.marks indicator 0) operator) || has b.joined operator)

  pub marks-hold : ((indicator : ℕ) → indicator < indicator_count → mark_test indicator ≡ true) → marks_in_range b ≡ true
  unfolding marks_in_range is_marked is_joined
  marks-hold all = every-of-each indicator_count _ all

  pub marks-fail : (indicator : ℕ) → indicator < indicator_count → mark_test indicator ≡ false → marks_in_range b ≡ false
  unfolding marks_in_range is_marked is_joined
  marks-fail indicator lt failed = every-fails indicator_count _ indicator lt failed

-- a mask that has only what another has is what they have in common
pub common-part : (mask joined : ℕ) → mask < 2 ^ operators
    → eqb (bit_and mask joined) mask ≡ every operators (λ (operator : ℕ). not (has mask operator) || has joined operator)
common-part mask joined small =
    same_test _ _ (λ same. every-of-each operators _ (λ k lt. allowed (has mask k) (has joined k) (sym (and-has mask joined k) ∙ ap (λ (m : ℕ). has m k) (eqb-true _ _ same))))
    (λ all. eq-eqb _ _ (same_bits operators (bit_and mask joined) mask (omega (arith, and_le_l mask joined)) small
    (λ k lt. and-has mask joined k ∙ kept (has mask k) (has joined k) (each-of-every operators _ all k lt))))
  where
    allowed : (s t : Bool) → s && t ≡ s → not s || t ≡ true
    allowed true t e = e
    allowed false t e = refl

    kept : (s t : Bool) → not s || t ≡ true → s && t ≡ s
    kept true t e = e
    kept false t e = refl
