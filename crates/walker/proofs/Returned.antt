-- What a call has returned, where the callee takes one lifetime: the result, the machine value that spells it, and what the callee's contract
-- says of it, beside the lifetime's token, which is back.
-- Assumes nothing.
use mathlib.Core.Path.{◌≡◌, refl, ap, subst}
use mathlib.Core.List.{List, [], ◌∷◌}
use seplogic.Ra.Ura.{Ura}
use mir.Val.{Val}
use base.Logic.{SProp, ent, guard}
use base.Fml.{Lft, Share, ftrue, flft}
use types.Logic.{Logic}
use contract.Monad.{fact}
use types.Kit.{Item, ‵, raw, ◌⊛◌, some, given, later, mean, ◌$◌, ◌∵◌, !, qed, move, use1, split, pick, rewrite, show, check, await, updating, now as at_once, done}
use denote.RattleType.{RattleType}
use denote.Laws.{Is, Tells, shows}
use denote.Steps.{only, peeks, heard}

module _ {M : Type 1} {𝓤 : Ura M} (𝓛 : Logic 𝓤) (R : RattleType) (val : R.Denot → Val) (κ : Lft) (q : Share) (φ : R.Denot → Type 0) (u : Val) where
  abbrev pub Known : R.Denot → Type 0
  Known r = φ r × (u ≡ val r) × Is R r (val r ∷ [])

  abbrev Had : R.Denot → Item 𝓤
  Had r = (‵ (flft κ q) ⊛ ‵ ftrue) ⊛ ‵ (R.own_val r (val r ∷ []))

  abbrev pub Returned : Item 𝓤
  Returned = later (some (λ (r : R.Denot). given (Known r) (Had r)))

  module _ (tells : Tells R (Is R) (λ r. val r ∷ [])) (Ensured : R.Denot → SProp 𝓤) (said : (r : R.Denot) → ent 𝓤 (Ensured r) (fact 𝓤 (φ r))) where
    abbrev Post : Item 𝓤
    Post = later (some (λ (r : R.Denot). ((‵ (flft κ q) ⊛ ‵ ftrue) ⊛ ‵ (R.own_val r (u ∷ []))) ⊛ raw (Ensured r)))

    pub returned : ent 𝓤 (mean 𝓛 Post) (mean 𝓛 Returned)
    returned =
        qed 𝓛 (Post ∷ []) ∵ updating ! $ await ! tt $ pick ! (λ r. split ! $ move ! (1 ∷ []) $ use1 𝓛 (raw (fact 𝓤 (φ r))) (said r) $ heard ! (φ r) (λ e. split ! $ move ! (1 ∷ []) $
        peeks ! R (Is R) (shows 𝓛 R) r (u ∷ []) (λ is.
        let told : u ∷ [] ≡ val r ∷ [] = tells r (u ∷ []) is in
        rewrite ! 0 (λ (vs : List Val). ‵ (R.own_val r vs)) told refl $ at_once ! $ show ! (λ (s : R.Denot). guard 𝓤 (Known s) (mean 𝓛 (Had s))) r $
        check ! (e, ap only told, subst (Is R r) told is) $ move ! (1 ∷ 0 ∷ []) $ done !)))
