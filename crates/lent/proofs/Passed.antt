-- The further parameters of a lent call, which are passed on to its core as they are: plain data, or references that can be copied, at n lifetimes.
-- The core has those n lifetimes, and the lent call one more in front of them, that of the state: so a reference's MIR type, which says its
-- lifetime's number, is one in the core and another in the lent call.
-- Assumes nothing.
use Prim.Native.Nat.{ℕ, suc}
use mathlib.Core.Path.{◌≡◌, refl}
use mathlib.Core.List.{List, [], ◌∷◌}
use seplogic.Ra.Ura.{Ura}
use lib.Dec.{T}
use lib.ListN.{length}
use mir.Syntax.{Ty, ty_ref, Written, wrote, imm, named}
use mir.Val.{Val, WT, has_ty}
use base.Logic.{ent, sep}
use base.Stored.{Coded}
use base.Fml.{Lft, Fml, ftrue, fsep}
use types.Logic.{Logic, sem}
use types.Kit.{‵, ◌⊛◌, ◌$◌, ◌∵◌, !, qed, move, use1, split, fsplit, fjoin, frame, done}
use contract.Lifetimes.{Lfts}
use denote.RattleType.{RattleType, RowLaws, Denots, Valss, owns}
use denote.Shadow.{shadow}
use denote.Laws.{Is, Ises, Are, Spells, Tellss, valss, shows}
use denote.Exit.{unchanged, yes}
use denote.Memory.{pointee}
use denote.Ref.{Bor}
use denote.Slice.{ShrSlice, slice_ty, slice_val, shr_slice_Tells, shr_slice_Lawful, shr_slice_copy}
use denote.Signature.{Slot, plain, types_at}
use denote.Steps.{owned, facts, nothing}
use denote.Triple.End.{Fins, all}
use denote.Triple.Walked.{Stays, stay_none, AllGo, Goes-none, has_of, fits_of}
use Rattle.lent.proofs.Plain.{Plain}

-- a type as MIR has it
pub record Form : Type 0 where
  pub ty : Ty
  pub written : Written
  pub reaches : List (Written × List Ty)

-- whatever is owned has a machine value of the type τ
abbrev Fits : (n : ℕ) {X : Type 0} → (Lfts n → X → List Val → Fml) → (X → Val) → Ty → Type 2
Fits n {X} own val τ =
    (M : Type 1) (𝓤 : Ura M) (𝓛 : Logic 𝓤) → (κs : Lfts n) (x : X) → shadow (own κs x (val x ∷ [])) → T (has_ty τ (val x)) × WT (val x)

pub record Passed (n : ℕ) : Type 2 where
  -- its value, what it owns at the further lifetimes, and a value's one machine value
  pub Value : Type 0
  pub own : Lfts n → Value → List Val → Fml
  pub coded : Coded Value
  pub val : Value → Val
  pub in_core : Form
  pub in_lent : Form
  -- the lifetimes that it names, and what a `&` to it holds
  pub lives : Lfts n → Lft
  pub shr_at : Lfts n → Value → ℕ → ℕ → Lft → Fml
  pub tells : (κs : Lfts n) (x : Value) (vs : List Val) → shadow (own κs x vs) → vs ≡ val x ∷ []
  pub typed_in_core : Fits n own val in_core.ty
  pub typed_in_lent : Fits n own val in_lent.ty
  pub twice : {M : Type 1} {𝓤 : Ura M} (𝓛 : Logic 𝓤) → (κs : Lfts n) (x : Value) (vs : List Val) → ent 𝓤 (sem 𝓛 (own κs x vs)) (sep 𝓤 (sem 𝓛 (own κs x vs)) (sem 𝓛 (own κs x vs)))

-- plain data: its facts make what it owns, so as often as is wanted
abbrev pub by_value : {n : ℕ} → Plain → Passed n
by_value {n} P = record {
  Value = P.row.Denot;
  own = λ κs. P.row.own_val;
  coded = P.row.coded;
  in_core = record { ty = P.ty; written = P.row.written; reaches = P.row.reaches };
  in_lent = record { ty = P.ty; written = P.row.written; reaches = P.row.reaches };
  lives = λ κs. P.row.lives;
  shr_at = λ κs. P.row.shr_at;
  val = P.val;
  tells = λ κs. P.tells;
  typed_in_core = λ M 𝓤 𝓛 κs x is. P.typed 𝓛 x _ is;
  typed_in_lent = λ M 𝓤 𝓛 κs x is. P.typed 𝓛 x _ is;
  twice = λ 𝓛 κs x vs.
      qed 𝓛 (‵ (P.row.own_val x vs) ∷ []) ∵ facts ! P.row (Is P.row) (shows 𝓛 P.row) x vs (λ is.
      owned ! P.row (Is P.row) (P.makes 𝓛) x vs is $ owned ! P.row (Is P.row) (P.makes 𝓛) x vs is $ done !);
}

-- a `&[T]` at the one further lifetime. It can be copied by T's laws of what a `&` holds
abbrev slice-form : ℕ → RattleType → Form
slice-form j R = record { ty = slice_ty (ty_ref (named j) imm (pointee R.written)); written = wrote (slice_ty (ty_ref (named j) imm (pointee R.written))); reaches = (R.written, R.mir) ∷ R.reaches }

abbrev pub shared-slice : (R : RattleType) → RowLaws R → Passed 1
shared-slice R L = record {
  Value = Bor (List R.Denot);
  own = λ κs. (ShrSlice (named 0) κs.0 R).own_val;
  coded = (ShrSlice (named 0) [] R).coded;
  in_core = slice-form 0 R;
  in_lent = slice-form 1 R;
  lives = λ κs. (ShrSlice (named 0) κs.0 R).lives;
  shr_at = λ κs. (ShrSlice (named 0) κs.0 R).shr_at;
  val = λ x. slice_val x.ref_ptr (length x.now);
  tells = λ κs. shr_slice_Tells (named 0) κs.0 R;
  typed_in_core = λ M 𝓤 𝓛 κs x is. ((shr_slice_Lawful 𝓛 (named 0) κs.0 R).typed x _ is).0;
  typed_in_lent = λ M 𝓤 𝓛 κs x is. ((shr_slice_Lawful 𝓛 (named 1) κs.0 R).typed x _ is).0;
  twice = λ 𝓛 κs. (shr_slice_copy 𝓛 (named 0) κs.0 R L).twice;
}

-- ---- the two sides, the core's and the lent call's: how many lifetimes, which of them are the further ones, and the parameters' MIR types
pub record Side (n : ℕ) : Type 2 where
  pub lifetimes : ℕ
  pub further : Lfts lifetimes → Lfts n
  pub form : Passed n → Form
  pub typed : (P : Passed n) → Fits n P.own P.val (form P).ty

abbrev pub of-core : (n : ℕ) → Side n
of-core n = record { lifetimes = n; further = λ κs. κs; form = λ P. P.in_core; typed = λ P. P.typed_in_core }

abbrev pub of-lent : (n : ℕ) → Side n
of-lent n = record { lifetimes = suc n; further = λ κs. κs.1; form = λ P. P.in_lent; typed = λ P. P.typed_in_lent }

-- ---- a list of parameters: their values, that each is one of its type, and what they own
module _ {n : ℕ} where
  abbrev pub Values : List (Passed n) → Type 0
  Values [] = Unit {0}
  Values (P ∷ Ps) = P.Value × Values Ps

  module _ (κs : Lfts n) where
    abbrev pub Good : (Ps : List (Passed n)) → Values Ps → Type 0
    Good [] xs = Unit {0}
    Good (P ∷ Ps) xs = shadow (P.own κs xs.0 (P.val xs.0 ∷ [])) × Good Ps xs.1

    abbrev pub owned-all : (Ps : List (Passed n)) → Values Ps → Fml
    owned-all [] xs = ftrue
    owned-all (P ∷ Ps) xs = fsep (P.own κs xs.0 (P.val xs.0 ∷ [])) (owned-all Ps xs.1)

  -- ---- in a signature
  module _ (s : Side n) where
    abbrev pub row : Lfts s.lifetimes → Passed n → RattleType
    row κs P = record {
      Denot = P.Value;
      mir = (s.form P).ty ∷ [];
      written = (s.form P).written;
      reaches = (s.form P).reaches;
      lives = P.lives (s.further κs);
      own_val = P.own (s.further κs);
      exit = λ k. unchanged;
      coded = P.coded;
      shr_at = P.shr_at (s.further κs);
    }

    abbrev pub slots : List (Passed n) → List (Slot s.lifetimes)
    slots [] = []
    slots (P ∷ Ps) = plain (λ κs. row κs P) ∷ slots Ps

    abbrev pub stays : (Ps : List (Passed n)) → Stays (slots Ps) (all yes (slots Ps))
    stays [] = tt
    stays (P ∷ Ps) = (stay_none (λ κs. row κs P) yes, stays Ps)

    pub goes-all : {M : Type 1} {𝓤 : Ura M} (𝓛 : Logic 𝓤) (Ps : List (Passed n)) → AllGo 𝓛 s.lifetimes (slots Ps) (all yes (slots Ps)) (stays Ps)
    goes-all 𝓛 [] = tt
    goes-all 𝓛 (P ∷ Ps) = (Goes-none 𝓛 s.lifetimes (λ κs. row κs P) yes (λ κs x f. refl), goes-all 𝓛 Ps)

    module _ (κs : Lfts s.lifetimes) where
      abbrev pub Rows : List (Passed n) → List RattleType
      Rows Ps = types_at (slots Ps) κs

      abbrev pub values : (Ps : List (Passed n)) → Denots (Rows Ps) → Values Ps
      values [] a = tt
      values (P ∷ Ps) a = (a.0, values Ps a.1)

      abbrev pub args : (Ps : List (Passed n)) → Values Ps → Denots (Rows Ps)
      args [] xs = tt
      args (P ∷ Ps) xs = (xs.0, args Ps xs.1)

      pub values-args : (Ps : List (Passed n)) (xs : Values Ps) → values Ps (args Ps xs) ≡ xs
      values-args [] xs = refl
      values-args (P ∷ Ps) xs = λ i. (xs.0, values-args Ps xs.1 i)

      abbrev pub spelling : (Ps : List (Passed n)) → Spells (Rows Ps)
      spelling [] = tt
      spelling (P ∷ Ps) = ((λ x. P.val x ∷ []), spelling Ps)

      abbrev pub telling : (Ps : List (Passed n)) → Tellss (Rows Ps) (Ises (Rows Ps)) (spelling Ps)
      telling [] = tt
      telling (P ∷ Ps) = (P.tells (s.further κs), telling Ps)

      abbrev pub machines : (Ps : List (Passed n)) → Denots (Rows Ps) → Valss (Rows Ps)
      machines Ps a = valss (Rows Ps) (spelling Ps) a

      pub good : (Ps : List (Passed n)) (a : Denots (Rows Ps)) → Are (Rows Ps) (Ises (Rows Ps)) a (machines Ps a) → Good (s.further κs) Ps (values Ps a)
      good [] a is = tt
      good (P ∷ Ps) a is = (is.0, good Ps a.1 is.1)

      -- nothing is bound of them at exit
      abbrev pub finals : (Ps : List (Passed n)) (a : Denots (Rows Ps)) → Fins κs (slots Ps) (all yes (slots Ps)) a
      finals [] a = tt
      finals (P ∷ Ps) a = (tt, finals Ps a.1)

      abbrev pub fitting : (Ps : List (Passed n)) (a : Denots (Rows Ps)) → fits_of κs (slots Ps) (all yes (slots Ps)) (stays Ps) a (finals Ps a)
      fitting [] a = tt
      fitting (P ∷ Ps) a = (tt, fitting Ps a.1)

      -- what is had of them at exit
      abbrev pub Had : (Ps : List (Passed n)) → Denots (Rows Ps) → Fml
      Had Ps a = has_of κs (slots Ps) (all yes (slots Ps)) (stays Ps) a (finals Ps a) (machines Ps a)

      -- what they own, as a signature says it at entry and at exit
      pub had-at-entry : (Ps : List (Passed n)) (a : Denots (Rows Ps)) → owns (Rows Ps) a (machines Ps a) ≡ owned-all (s.further κs) Ps (values Ps a)
      had-at-entry [] a = refl
      had-at-entry (P ∷ Ps) a = λ i. fsep (P.own (s.further κs) a.0 (P.val a.0 ∷ [])) (had-at-entry Ps a.1 i)

      pub had-at-exit : (Ps : List (Passed n)) (a : Denots (Rows Ps)) → owned-all (s.further κs) Ps (values Ps a) ≡ Had Ps a
      had-at-exit [] a = refl
      had-at-exit (P ∷ Ps) a = λ i. fsep (P.own (s.further κs) a.0 (P.val a.0 ∷ [])) (had-at-exit Ps a.1 i)

      -- a callee is given what it asks of them, and the caller keeps it
      pub passes_on : {M : Type 1} {𝓤 : Ura M} (𝓛 : Logic 𝓤) → (Ps : List (Passed n)) (xs : Values Ps)
          → ent 𝓤 (sem 𝓛 (owned-all (s.further κs) Ps xs)) (sep 𝓤 (sem 𝓛 (owns (Rows Ps) (args Ps xs) (machines Ps (args Ps xs)))) (sem 𝓛 (owned-all (s.further κs) Ps xs)))
      passes_on 𝓛 [] xs = qed 𝓛 (‵ ftrue ∷ []) ∵ nothing ! $ done !
      passes_on 𝓛 (P ∷ Ps) xs =
          let one : Fml = P.own (s.further κs) xs.0 (P.val xs.0 ∷ []) in
          let others : Fml = owned-all (s.further κs) Ps xs.1 in
          qed 𝓛 (‵ (fsep one others) ∷ []) ∵ fsplit ! $ use1 𝓛 (‵ one ⊛ ‵ one) (P.twice 𝓛 (s.further κs) xs.0 _) $ split ! $ move ! (2 ∷ []) $
          use1 𝓛 (‵ (owns (Rows Ps) (args Ps xs.1) (machines Ps (args Ps xs.1))) ⊛ ‵ others) (passes_on 𝓛 Ps xs.1) $ split ! $ move ! (2 ∷ 0 ∷ 3 ∷ 1 ∷ []) $ fjoin ! $ frame ! $ fjoin ! $ done !
