-- The contracts of a by-value core and of the call that lends it: a struct of a state and an answer, the two signatures over any further parameters,
-- and one promise that both keep.
-- Assumes nothing.
use Prim.Native.Nat.{ℕ, suc}
use mathlib.Core.Path.{◌≡◌}
use mathlib.Core.List.{List, [], ◌∷◌}
use seplogic.Ra.Ura.{Ura}
use lib.Dec.{T}
use mir.Syntax.{Sym, Ty, ty_struct, tcons, tnil}
use mir.Val.{Val, vstruct, vcons, vnil, WT, has_ty}
use base.Logic.{SProp, emp}
use types.Logic.{Logic}
use contract.Lifetimes.{Lfts}
use contract.Monad.{fact}
use denote.RattleType.{RattleType}
use denote.Laws.{Is, Makes}
use denote.Signature.{plain, mut_ref_to}
use denote.Triple.Statement.{Contract}
use denote.Triple.Entry.{Args, Res}
use denote.Triple.End.{all}
use denote.Triple.Spec.{triple_of}
use denote.Triple.Clauses.{Ended, Clauses, AtExit, closing}
use denote.Exit.{yes}
use Rattle.lent.proofs.Plain.{Plain}
use Rattle.lent.proofs.Passed.{Passed, of-core, of-lent, Values, slots, values}

-- a struct of exactly a state and an answer, in this order: it is taken apart, put together, and has the machine value of its two fields
pub record Paired (B N : Plain) : Type 2 where
  pub row : RattleType
  pub name : Sym
  pub state : row.Denot → B.row.Denot
  pub answer : row.Denot → N.row.Denot
  pub both : B.row.Denot → N.row.Denot → row.Denot
  pub state_both : (b : B.row.Denot) (n : N.row.Denot) → state (both b n) ≡ b
  pub answer_both : (b : B.row.Denot) (n : N.row.Denot) → answer (both b n) ≡ n
  pub parts : (r : row.Denot) (v : Val) → Is row r (v ∷ [])
      → (v ≡ vstruct (vcons (B.val (state r)) (vcons (N.val (answer r)) vnil))) × Is B.row (state r) (B.val (state r) ∷ []) × Is N.row (answer r) (N.val (answer r) ∷ [])
  pub whole : (b : B.row.Denot) (n : N.row.Denot) → Is B.row b (B.val b ∷ []) → Is N.row n (N.val n ∷ []) → Is row (both b n) (vstruct (vcons (B.val b) (vcons (N.val n) vnil)) ∷ [])
  pub typed : {M : Type 1} {𝓤 : Ura M} (𝓛 : Logic 𝓤) → (r : row.Denot) (v : Val) → Is row r (v ∷ []) → T (has_ty (ty_struct name (tcons B.ty (tcons N.ty tnil))) v) × WT v
  pub makes : {M : Type 1} {𝓤 : Ura M} (𝓛 : Logic 𝓤) → Makes 𝓛 row (Is row)

module _ {B N : Plain} (P : Paired B N) {n : ℕ} (Ps : List (Passed n)) where
  -- what is said of the state, the further arguments, the answer and the new state
  abbrev pub Promise : Type 1
  Promise = B.row.Denot → Values Ps → N.row.Denot → B.row.Denot → Type 0

  abbrev pub core-ended : Ended
  core-ended = record {
    signature = record { lifetimes = n; outlives = []; params = plain (λ _. B.row) ∷ slots (of-core n) Ps; result = plain (λ _. P.row) };
    kept = (yes, all yes (slots (of-core n) Ps));
  }

  abbrev pub lent-ended : Ended
  lent-ended = record {
    signature = record { lifetimes = suc n; outlives = []; params = mut_ref_to (0 ∷ []) tt (plain (λ _. B.row)) ∷ slots (of-lent n) Ps; result = plain (λ _. N.row) };
    kept = (yes, all yes (slots (of-lent n) Ps));
  }

  abbrev pub pair_ty : Ty
  pair_ty = ty_struct P.name (tcons B.ty (tcons N.ty tnil))

  -- a contract that asks nothing, by what it ensures
  module _ {M : Type 1} (𝓤 : Ura M) where
    abbrev pub CoreEnsures : Type 2
    CoreEnsures = (κs : Lfts n) (a : Args core-ended.signature κs) → Unit {0} → Res core-ended.signature κs → AtExit core-ended κs → SProp 𝓤

    abbrev pub LentEnsures : Type 2
    LentEnsures = (κs : Lfts (suc n)) (a : Args lent-ended.signature κs) → Unit {0} → Res lent-ended.signature κs → AtExit lent-ended κs → SProp 𝓤

    abbrev pub core-ensuring : CoreEnsures → Clauses 𝓤 core-ended
    core-ensuring E κs a = record { ghost = Unit {0}; requires = λ g. emp 𝓤; ensures = E κs a }

    abbrev pub lent-ensuring : LentEnsures → Clauses 𝓤 lent-ended
    lent-ensuring E κs a = record { ghost = Unit {0}; requires = λ g. emp 𝓤; ensures = E κs a }

  -- the two that keep one promise
  module _ (S : Promise) {M : Type 1} (𝓤 : Ura M) where
    abbrev pub core-clauses : Clauses 𝓤 core-ended
    core-clauses = core-ensuring 𝓤 (λ κs a g r e. fact 𝓤 (S a.0 (values (of-core n) κs Ps a.1) (P.answer r) (P.state r)))

    abbrev pub lent-clauses : Clauses 𝓤 lent-ended
    lent-clauses = lent-ensuring 𝓤 (λ κs a g r e. fact 𝓤 (S a.0.now (values (of-lent n) κs Ps a.1) r e.0.now))

  module _ {M : Type 1} {𝓤 : Ura M} (𝓛 : Logic 𝓤) where
    abbrev pub Core : Clauses 𝓤 core-ended → Contract 𝓤
    Core c = triple_of 𝓛 core-ended.signature (closing 𝓛 core-ended c)

    abbrev pub Lent : Clauses 𝓤 lent-ended → Contract 𝓤
    Lent c = triple_of 𝓛 lent-ended.signature (closing 𝓛 lent-ended c)
