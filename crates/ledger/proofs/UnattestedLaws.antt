-- The marks of an operator that has just joined, mask by mask.
-- Assumes nothing.
use Prim.Native.Nat.{ℕ, zero, suc, ◌+◌, ◌≤◌, ◌<◌}
use mathlib.Core.Path.{◌≡◌, refl, sym, ap, ◌∙◌}
use mathlib.Core.Bool.{cond}
use mathlib.Core.List.{List, [], ◌∷◌}
use native.Mathlib.Numerals.{add-one}
use native.Mathlib.Omega.{arith}
use lib.ListN.{length, get_or, set}
use Rattle.calls.specs.Masks.{including}
use Rattle.calls.specs.Indicators.{Indicator, takes_mark}
use Rattle.book.proofs.Mixed.{mix, mix-set, mix-at, mix_all}
use Rattle.ledger.specs.Calls.{map_from, unattested}

-- a list changed place by place
module _ (f : ℕ → ℕ → ℕ) where
  pub map-from-long : (number : ℕ) (list : List ℕ) → length (map_from number f list) ≡ length list
  unfolding map_from
  map-from-long number [] = refl
  map-from-long number (x ∷ rest) = ap suc (map-from-long (suc number) rest)

  from_at : (number : ℕ) (list : List ℕ) (i : ℕ) → i < length list → get_or (map_from number f list) i 0 ≡ f (number + i) (get_or list i 0)
  unfolding map_from
  from_at number [] i lt = absurd (omega arith)
  from_at number (x ∷ rest) zero lt =
      let here : number + 0 ≡ number = omega arith in
      rw here refl
  from_at number (x ∷ rest) (suc i) lt =
      let later : number + suc i ≡ suc number + i = omega arith in
      rw later (from_at (suc number) rest i (omega arith))

  pub map-from-at : (list : List ℕ) (i : ℕ) → i < length list → get_or (map_from 0 f list) i 0 ≡ f i (get_or list i 0)
  map-from-at list i lt =
      let here : 0 + i ≡ i = omega arith in
      rw here at (from_at 0 list i lt)

module _ (kind : List Indicator) (marks : List ℕ) (operator : ℕ) where
  pub unattested-long : length (unattested kind marks operator) ≡ length marks
  unfolding unattested
  unattested-long = map-from-long _ 0 marks

  pub unattested-at : (indicator : ℕ) → indicator < length marks
      → get_or (unattested kind marks operator) indicator 0 ≡ cond (takes_mark kind indicator) (including (get_or marks indicator 0) operator) (get_or marks indicator 0)
  unfolding unattested
  unattested-at indicator lt = map-from-at _ marks indicator lt

-- the first masks have the operator, the others are as they were
pub record MarkedTo (kind : List Indicator) (old : List ℕ) (operator indicator : ℕ) (new : List ℕ) : Type 0 where
  pub within : indicator ≤ length old
  pub masks : new ≡ mix indicator (unattested kind old operator) old

module _ {kind : List Indicator} {old : List ℕ} {operator : ℕ} where
  pub marked-none : MarkedTo kind old operator 0 old
  marked-none = record { within = omega arith; masks = refl }

  pub marked_more : {indicator : ℕ} {new : List ℕ} {mask : ℕ} → MarkedTo kind old operator indicator new → indicator < length old
      → mask ≡ cond (takes_mark kind indicator) (including (get_or new indicator 0) operator) (get_or new indicator 0)
      → MarkedTo kind old operator (indicator + 1) (set new indicator mask)
  marked_more {indicator} before lt marked =
      let long = unattested-long kind old operator in
      let inside : indicator < length (unattested kind old operator) = rw long lt in
      record {
        within = omega arith;
        masks =
            rw (marked, add-one, before.masks, mix-at (unattested kind old operator) old (sym long) indicator inside, ← unattested-at kind old operator indicator lt)
            (mix-set (unattested kind old operator) old (sym long) indicator inside);
      }

  pub marked_all : {indicator : ℕ} {new : List ℕ} → MarkedTo kind old operator indicator new → length old ≤ indicator → new ≡ unattested kind old operator
  marked_all {indicator} before le =
      let last : indicator ≡ length old = omega (arith, before.within) in
      before.masks ∙ rw last (mix_all (length old) (unattested kind old operator) old (unattested-long kind old operator) refl)
