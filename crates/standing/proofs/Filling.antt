-- An array of sixteen that is filled from the front with a table's values.
-- Assumes nothing.
use Prim.Native.Nat.{ℕ, ◌+◌, ◌≤◌, ◌<◌}
use mathlib.Core.Path.{◌≡◌, refl, sym, ◌∙◌}
use mathlib.Core.List.{List}
use native.Mathlib.Numerals.{add-one}
use native.Mathlib.Omega.{arith}
use lib.ListN.{length, set, take, length-set}
use lib.Seq.{take-suc-set, take_all}
use Rattle.values.specs.Operators.{table, each}

module _ {A : Type 0} (f : ℕ → A) where
  -- an array of sixteen that holds the table's values at the first i places
  pub record Filling (i : ℕ) (out : List A) : Type 0 where
    pub within : i ≤ 16
    pub long : length out ≡ 16
    pub same : take i out ≡ table i f

  pub filling-none : (out : List A) → length out ≡ 16 → Filling 0 out
  unfolding table
  filling-none out long = record { within = omega arith; long = long; same = refl }

  -- one place more
  pub filling-more : {i : ℕ} {out : List A} (v : A) → Filling i out → i < 16 → v ≡ f i → Filling (i + 1) (set out i v)
  unfolding table
  filling-more {i} {out} v before lt e =
      record {
        within = omega arith;
        long = length-set out i v ∙ before.long;
        same = rw (add-one, take-suc-set out i v (omega arith), before.same, e) refl;
      }

  -- all of them
  pub filling-all : {i : ℕ} {out : List A} → Filling i out → 16 ≤ i → out ≡ table 16 f
  filling-all {i} {out} before le =
      let last : i ≡ 16 = omega arith in
      sym (take_all 16 out (omega arith)) ∙ (rw last at before.same)

pub filling-each : {f : ℕ → ℕ} {i : ℕ} {out : List ℕ} → Filling f i out → 16 ≤ i → out ≡ each f
unfolding each
filling-each {f} before le = filling-all f before le
