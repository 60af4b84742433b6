-- `settlement::settling::refuse` meets its contract.
-- Assumes nothing.
use Prim.Native.Nat.{ℕ}
use mathlib.Core.Path.{◌≡◌, refl, sym, ◌∙◌}
use mathlib.Core.List.{List}
use lib.ListN.{replicate, length-replicate}
use lib.IntN.{pos}
use lib.Seq.{ext_get_or}
use Rattle.std.specs.Array.{AllOfLen}
use Rattle.std.proofs.lemmas.List.{get_or-replicate}
use Rattle.settlement.specs.Settlement.{settlement, nothing}
use Rattle.settlement.proofs.settling.refuse.Goals as goal

-- an array whose elements are all the same
all-same : {A : Type 0} (P : A → Type 0) (z : A) → ((x : A) → P x → x ≡ z) → (xs : List A) (n : ℕ) → AllOfLen P xs n → xs ≡ replicate n z
all-same P z same xs n all =
    ext_get_or z xs (replicate n z) (all.long ∙ sym (length-replicate n z)) (λ i lt.
    let inside = rw all.long at lt in
    same _ (all.at i z inside) ∙ sym (get_or-replicate n i z z inside))

noughts : (xs : List ℕ) (n : ℕ) → AllOfLen (λ (x : ℕ). x ≡ 0) xs n → xs ≡ replicate n 0
noughts = all-same _ 0 (λ x e. e)

pub returns : goal.returns
unfolding nothing
returns c =
    let numbers = c.default.ensures in
    let money = numbers.1.1 in (
      refl,
      λ i.
          settlement (noughts _ 6 numbers.0 i) (noughts _ 96 numbers.1.0 i) (money.0 i) (noughts _ 16 money.1.0 i) (noughts _ 16 money.1.1.0 i) (noughts _ 16 money.1.1.1.0 i)
          (all-same _ (pos 0) (λ x e. e) _ 16 money.1.1.1.1 i),
    )
