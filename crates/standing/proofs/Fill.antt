-- An array that is filled from the front with the elements of a list.
-- Assumes nothing.
use mathlib.Core.Path.{◌≡◌, refl, sym, ◌∙◌}
use mathlib.Core.List.{List}
use Prim.Native.Nat.{ℕ, ◌+◌, ◌≤◌, ◌<◌}
use native.Mathlib.Numerals.{add-one}
use native.Mathlib.Omega.{arith}
use lib.ListN.{length, get_or, set, take, length-set}
use lib.Seq.{take-suc, take-suc-set, take_all}

-- an array of n that holds a list's elements at the first i places
pub record FilledTo (n : ℕ) (target : List ℕ) (i : ℕ) (out : List ℕ) : Type 0 where
  pub within : i ≤ n
  pub long : length out ≡ n
  pub same : take i out ≡ take i target

-- one place more
pub filled_more : {n i : ℕ} {target out : List ℕ} (v : ℕ) → FilledTo n target i out → i < n → length target ≡ n → v ≡ get_or target i 0
    → FilledTo n target (i + 1) (set out i v)
filled_more {n} {i} {target} {out} v before lt long e =
    record {
      within = omega arith;
      long = length-set out i v ∙ before.long;
      same = rw (add-one, take-suc-set out i v (omega arith), take-suc target i 0 (omega arith), before.same, e) refl;
    }

-- all of them
pub filled-all : {n i : ℕ} {target out : List ℕ} → FilledTo n target i out → n ≤ i → length target ≡ n → out ≡ target
filled-all {n} {i} {target} {out} before le long =
    let last : i ≡ n = omega arith in
    sym (take_all n out (omega arith)) ∙ ((rw last at before.same) ∙ take_all n target (omega arith))
