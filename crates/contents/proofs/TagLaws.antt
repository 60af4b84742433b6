-- The tags that are known, and those that are not.
-- Assumes nothing.
use Prim.Native.Nat.{ℕ, ◌≤◌}
use mathlib.Core.Path.{◌≡◌, refl}
use mathlib.Core.Bool.{Bool, true, false, ◌&&◌}
use native.Mathlib.Omega.{arith}
use lib.Dec.{leb}
use borrow.Author.Tests.{leb-true}
use Rattle.calls.proofs.Flags.{both}
use Rattle.contents.specs.Content.{is_known, tags}

pub known : (tag : ℕ) → is_known tag ≡ true → (1 ≤ tag) × (tag ≤ 7)
unfolding is_known tags
known tag e =
    let tests = both (leb 1 tag) (leb tag 7) e in
    (leb-true 1 tag tests.0, leb-true tag 7 tests.1)

not_known : (tag : ℕ) → (1 ≤ tag → tag ≤ 7 → ⊥) → is_known tag ≡ false
unfolding is_known tags
not_known tag outside = go (leb 1 tag) (leb tag 7) refl refl
  where
    go : (least most : Bool) → leb 1 tag ≡ least → leb tag 7 ≡ most → least && most ≡ false
    go false most l m = refl
    go true false l m = refl
    go true true l m = absurd (outside (leb-true 1 tag l) (leb-true tag 7 m))

past_three : (tag : ℕ) → 1 ≤ tag → (tag ≡ 1 → ⊥) → (tag ≡ 2 → ⊥) → (tag ≡ 3 → ⊥) → 4 ≤ tag
past_three tag least a b c = omega arith

past-seven : (tag : ℕ) → 4 ≤ tag → (tag ≡ 4 → ⊥) → (tag ≡ 5 → ⊥) → (tag ≡ 6 → ⊥) → (tag ≡ 7 → ⊥) → 8 ≤ tag
past-seven tag least a b c d = omega arith

pub not_listed : (tag : ℕ) → (tag ≡ 1 → ⊥) → (tag ≡ 2 → ⊥) → (tag ≡ 3 → ⊥) → (tag ≡ 4 → ⊥) → (tag ≡ 5 → ⊥) → (tag ≡ 6 → ⊥) → (tag ≡ 7 → ⊥)
    → is_known tag ≡ false
not_listed tag a b c d e f g =
    not_known tag (λ least most. let more = past-seven tag (past_three tag least a b c) d e f g in omega (arith, more, most))
