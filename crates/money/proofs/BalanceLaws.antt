-- Cutting to limits and balancing two sides: no amount passes its limit, and both sides end at the smaller sum.
-- Assumes nothing.
use Prim.Native.Nat.{ℕ, min, ◌≤◌, ◌<◌}
use mathlib.Core.Path.{◌≡◌, refl, ◌∙◌}
use mathlib.Core.Bool.{Bool, true, false, cond}
use mathlib.Core.List.{List}
use native.Mathlib.Omega.{arith}
use lib.Dec.{ltb}
use lib.ListN.{length, get_or}
use borrow.Author.Tests.{ltb-true, ltb-false}
use Rattle.apportion.specs.Sum.{sum}
use Rattle.apportion.specs.Share.{share}
use Rattle.apportion.proofs.Shared.{shared}
use Rattle.values.proofs.Tables.{length-each, each_at}
use Rattle.money.specs.Money.{capped, balanced}

module _ (more less limit : List ℕ) where
  pub capped-length : length (capped more less limit) ≡ 16
  unfolding capped
  capped-length = length-each _

  pub capped-most : (operator : ℕ) → operator < 16 → get_or (capped more less limit) operator 0 ≤ get_or limit operator 0
  unfolding capped
  capped-most operator lt = rw each_at (omega arith)

module _ (side other sizes : List ℕ) where
  -- the two cases of the definition
  case-of : (P : List ℕ → Type 0) → (sum other < sum side → P (share (sum other) side sizes)) → (sum side ≤ sum other → P side) → P (balanced side other sizes)
  unfolding balanced
  case-of P shares keeps = go (ltb (sum other) (sum side)) refl
    where
      go : (t : Bool) → ltb (sum other) (sum side) ≡ t → P (cond t (share (sum other) side sizes) side)
      go true e = shares (ltb-true (sum other) (sum side) e)
      go false e = keeps (ltb-false (sum other) (sum side) e)

  pub balanced-length : length (balanced side other sizes) ≡ length side
  balanced-length = case-of (λ (l : List ℕ). length l ≡ length side) (λ lt. (shared (sum other) side sizes).long) (λ le. refl)

  pub balanced-sum : sum (balanced side other sizes) ≡ min (sum side) (sum other)
  balanced-sum =
      case-of (λ (l : List ℕ). sum l ≡ min (sum side) (sum other))
      (λ lt. (shared (sum other) side sizes).whole (omega arith) ∙ omega arith)
      (λ le. omega arith)

  pub balanced-within : (i : ℕ) → i < length side → get_or (balanced side other sizes) i 0 ≤ get_or side i 0
  balanced-within i place =
      case-of (λ (l : List ℕ). get_or l i 0 ≤ get_or side i 0)
      (λ lt. (shared (sum other) side sizes).within (omega arith) i place)
      (λ le. omega arith)
