-- Where settings and figures stand: every place of the two lists is one slot, and a store at a slot changes that place alone.
-- Assumes nothing.
use Prim.Native.Nat.{ℕ, zero, suc, ◌/◌, ◌%◌, ◌<◌}
use mathlib.Core.Path.{◌≡◌, refl, ap}
use mathlib.Core.Bool.{Bool, true, false, cond, ◌&&◌}
use mathlib.Core.List.{List, [], ◌∷◌}
use native.Mathlib.Omega.{arith}
use lib.Dec.{eqb}
use lib.ListN.{length, get_or, set}
use lib.Seq.{get_or-set_same, get_or-set_other}
use borrow.Author.Tests.{eqb-true, eqb-false, eq-eqb, ne_eqb}
use Rattle.calls.specs.Limits.{operators, years, figure_count, setting_count, setting_places, operator_figures, figure_places}
use Rattle.book.specs.Book.{setting_slot, figure_slot}

-- what stands at a place after a store
pub stored : (l : List ℕ) (i v j : ℕ) → i < length l → get_or (set l i v) j 0 ≡ cond (eqb j i) v (get_or l j 0)
stored l i v j lt = go (eqb j i) refl
  where
    go : (t : Bool) → eqb j i ≡ t → get_or (set l i v) j 0 ≡ cond t v (get_or l j 0)
    go true e = rw (eqb-true j i e) (get_or-set_same l i v 0 lt)
    go false e = get_or-set_other l i j v 0 (eqb-false j i e)

-- what holds of the value stored and of the value before holds after a store, also of one that falls outside the list
pub store-holds : (P : ℕ → Type 0) (l : List ℕ) (i v j : ℕ) → (j ≡ i → P v) → P (get_or l j 0) → P (get_or (set l i v) j 0)
store-holds P [] i v j new old = old
store-holds P (x ∷ l) zero v zero new old = new refl
store-holds P (x ∷ l) zero v (suc j) new old = old
store-holds P (x ∷ l) (suc i) v zero new old = old
store-holds P (x ∷ l) (suc i) v (suc j) new old = store-holds P l i v j (λ e. new (ap suc e)) old

pub setting-slot-lt : (operator which : ℕ) → operator < operators → which < setting_count → setting_slot operator which < setting_places
unfolding setting_slot
setting-slot-lt operator which lo lw = omega arith

pub figure-slot-lt : (operator year figure : ℕ) → operator < operators → year < years → figure < figure_count → figure_slot operator year figure < figure_places
unfolding figure_slot
figure-slot-lt operator year figure lo ly lf = omega arith

-- two slots are the same where operator, year and figure are
pub same-setting-slot : (o w p x : ℕ) → w < setting_count → x < setting_count → eqb (setting_slot o w) (setting_slot p x) ≡ eqb o p && eqb w x
unfolding setting_slot
same-setting-slot o w p x lw lx = go (eqb o p) (eqb w x) refl refl
  where
    differ : (setting_slot o w ≡ setting_slot p x → ⊥) → eqb (setting_slot o w) (setting_slot p x) ≡ false
    differ = ne_eqb _ _

    go : (s t : Bool) → eqb o p ≡ s → eqb w x ≡ t → eqb (setting_slot o w) (setting_slot p x) ≡ s && t
    go true true d e = rw (eqb-true o p d, eqb-true w x e) (eq-eqb (setting_slot p x) _ refl)
    go true false d e = differ (λ q. eqb-false w x e (omega (arith, q)))
    go false t d e = differ (λ q. eqb-false o p d (omega (arith, q)))

pub same-figure-slot : (o y f p z g : ℕ) → y < years → f < figure_count → z < years → g < figure_count
    → eqb (figure_slot o y f) (figure_slot p z g) ≡ eqb o p && eqb y z && eqb f g
unfolding figure_slot
same-figure-slot o y f p z g ly lf lz lg = go (eqb o p) (eqb y z) (eqb f g) refl refl refl
  where
    differ : (figure_slot o y f ≡ figure_slot p z g → ⊥) → eqb (figure_slot o y f) (figure_slot p z g) ≡ false
    differ = ne_eqb _ _

    go : (r s t : Bool) → eqb o p ≡ r → eqb y z ≡ s → eqb f g ≡ t → eqb (figure_slot o y f) (figure_slot p z g) ≡ r && s && t
    go true true true c d e = rw (eqb-true o p c, eqb-true y z d, eqb-true f g e) (eq-eqb (figure_slot p z g) _ refl)
    go true true false c d e = differ (λ q. eqb-false f g e (omega (arith, q)))
    go true false t c d e = differ (λ q. eqb-false y z d (omega (arith, q)))
    go false s t c d e = differ (λ q. eqb-false o p c (omega (arith, q)))

-- each place is a slot
pub setting-place : (i : ℕ) → setting_slot (i / setting_count) (i % setting_count) ≡ i
unfolding setting_slot
setting-place i = omega arith

pub figure-place : (i : ℕ) → figure_slot (i / operator_figures) (i / figure_count % years) (i % figure_count) ≡ i
unfolding figure_slot
figure-place i = omega arith
