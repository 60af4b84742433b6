-- Steps of the calculus for a run of locals, the further parameters, kept as one entry of the context: they are allocated, filled with the
-- parameters' values, read as operands and freed, however many they are. And a place is found where the number of its local is computed.
-- Assumes nothing.
use Prim.Native.Nat.{ℕ, zero, suc}
use mathlib.Core.Path.{◌≡◌, refl, sym, subst}
use mathlib.Core.List.{List, [], ◌∷◌}
use seplogic.Ra.Ura.{Ura}
use base.Fraction.{full_share}
use lib.ListN.{get_or}
use mir.Syntax.{Ty, ty_enum, ttnil, Step as PStep, place, Opd as Operand, copy, Local, local, value_local}
use mir.Val.{Val}
use base.Logic.{ent}
use base.Fml.{Fml, ftrue, fsep, fat, froom, fdies}
use prog.Wp.{Env, Spot, walk, eval_opds}
use types.Logic.{Logic}
use contract.Lifetimes.{Lfts}
use denote.RattleType.{Denots, flat}
use denote.Steps.{nothing}
use types.Kit.{Item, ‵, ⋆, Goal, allocs, passes, frees, prop, Seq, Step, step, ◌$◌, by, move, drop, fsplit, fjoin}
use types.Run.{Walks, Finds, Opd, Opds, look, stop, load, init, forget, alloc1, pass0, pass1, free1}
use Rattle.lent.proofs.Passed.{Passed, Side, Values, Good, Rows, values, args, machines}

-- ---- a block for each; the locals, in front of others, and the environment that they make; room for each of them, and each with its value
abbrev pub Blocks : {n : ℕ} → List (Passed n) → Type 0
Blocks [] = Unit {0}
Blocks (P ∷ Ps) = ℕ × Blocks Ps

module _ {n : ℕ} (s : Side n) where
  abbrev pub locals : List (Passed n) → List Local → List Local
  locals [] ls = ls
  locals (P ∷ Ps) ls = local (s.form P).ty value_local ∷ locals Ps ls

  abbrev pub env : (Ps : List (Passed n)) → Blocks Ps → List (Ty × ℕ) → List (Ty × ℕ)
  env [] bs E = E
  env (P ∷ Ps) bs E = ((s.form P).ty, bs.0) ∷ env Ps bs.1 E

  abbrev pub rooms : (Ps : List (Passed n)) → Blocks Ps → Fml
  rooms [] bs = ftrue
  rooms (P ∷ Ps) bs = fsep (fsep (froom (s.form P).ty bs.0 zero) (fdies (s.form P).ty bs.0)) (rooms Ps bs.1)

  abbrev pub cells : (Ps : List (Passed n)) → Blocks Ps → Values Ps → Fml
  cells [] bs xs = ftrue
  cells (P ∷ Ps) bs xs = fsep (fsep (fat full_share (s.form P).ty bs.0 zero (P.val xs.0)) (fdies (s.form P).ty bs.0)) (cells Ps bs.1 xs.1)

-- the operands that copy them, where the j-th is local f j; and the numbers of the locals after them
abbrev pub copies : {n : ℕ} → (ℕ → ℕ) → List (Passed n) → List Operand
copies f [] = []
copies f (P ∷ Ps) = copy (place (f zero) []) ∷ copies (λ j. f (suc j)) Ps

abbrev pub after : {n : ℕ} → (ℕ → ℕ) → List (Passed n) → ℕ → ℕ
after f [] = f
after f (P ∷ Ps) = after (λ j. f (suc j)) Ps

-- the local of a number; past the last one the machine has a type with no value
abbrev pub local_at : List (Ty × ℕ) → ℕ → Ty × ℕ
local_at E i = get_or E i (ty_enum [] ttnil, zero)

-- local f j of E is the j-th of F
abbrev pub Stand : List (Ty × ℕ) → (ℕ → ℕ) → List (Ty × ℕ) → Type 0
Stand E f F = (j : ℕ) → local_at E (f j) ≡ local_at F j

pub stand-after : {n : ℕ} (s : Side n) (E rest : List (Ty × ℕ)) (Ps : List (Passed n)) (bs : Blocks Ps) (f : ℕ → ℕ) → Stand E f (env s Ps bs rest) → Stand E (after f Ps) rest
stand-after s E rest [] bs f at = at
stand-after s E rest (P ∷ Ps) bs f at = stand-after s E rest Ps bs.1 (λ j. f (suc j)) (λ j. at (suc j))

module _ {M : Type 1} {𝓤 : Ura M} {𝓛 : Logic 𝓤} {K : Type 0} where
  -- a place whose local is known by an equation
  open 𝓛 use {H}

  pub from_at : K → {Γ : List (Item 𝓤)} {E : Env 𝓤 H} {i : ℕ} {e : Ty × ℕ} {st : List PStep} {sp : Spot 𝓤 H} → local_at E i ≡ e → Walks K 𝓛 Γ E (e.0, e.1, zero) st sp → Finds K 𝓛 Γ E (place i st) sp
  from_at t {Γ} {E} {i} {e} {st} is w = record { go = λ Kt h. subst (λ (d : Ty × ℕ). ent 𝓤 (⋆ 𝓛 Γ) (walk 𝓤 H E (d.0, d.1, zero) st Kt)) (sym is) (w.go Kt h) }

  module _ {n : ℕ} (s : Side n) where
    pub alloc_all : K → (Ps : List (Passed n)) {ls : List Local} {Γ : List (Item 𝓤)} {Kt : Env 𝓤 H → Goal 𝓤 H}
        → ((bs : Blocks Ps) → Seq K 𝓛 (‵ (rooms s Ps bs) ∷ Γ) (allocs ls (λ E. Kt (env s Ps bs E)))) → Seq K 𝓛 Γ (allocs (locals s Ps ls) Kt)
    alloc_all t [] k = nothing t $ k tt
    alloc_all t (P ∷ Ps) k = alloc1 t (λ b. alloc_all t Ps (λ bs. move t (1 ∷ 2 ∷ 0 ∷ []) $ fjoin t $ fjoin t $ k (b, bs)))

    pub free_all : K → (Ps : List (Passed n)) (bs : Blocks Ps) (xs : Values Ps) {Γ : List (Item 𝓤)} {E : Env 𝓤 H} {g : Goal 𝓤 H} → Step K 𝓛 Γ (frees E g) (‵ (cells s Ps bs xs) ∷ Γ) (frees (env s Ps bs E) g)
    free_all t [] bs xs = step (λ k. drop t $ k)
    free_all t (P ∷ Ps) bs xs = step (λ k. fsplit t $ fsplit t $ forget t 0 refl $ free1 t $ free_all t Ps bs.1 xs.1 $ k)

    pub pass_all : K → (κs : Lfts s.lifetimes) (Ps : List (Passed n)) (bs : Blocks Ps) (a : Denots (Rows s κs Ps)) → Good (s.further κs) Ps (values s κs Ps a) → (E : Env 𝓤 H) {Γ : List (Item 𝓤)} {g : Goal 𝓤 H}
        → Step K 𝓛 (‵ (cells s Ps bs (values s κs Ps a)) ∷ Γ) g (‵ (rooms s Ps bs) ∷ Γ) (passes (env s Ps bs E) (flat (Rows s κs Ps) (machines s κs Ps a)) g)
    pass_all t κs [] bs a ok E = step (λ k. pass0 t $ k)
    pass_all t κs (P ∷ Ps) bs a ok E = step (λ k.
        fsplit t $ fsplit t $ pass1 t (init t 0 refl (s.typed P M 𝓤 𝓛 (s.further κs) a.0 ok.0)) $
        move t (2 ∷ []) $ pass_all t κs Ps bs.1 a.1 ok.1 E $ move t (1 ∷ 2 ∷ 0 ∷ []) $ fjoin t $ fjoin t $ k)

    -- the operands, as the values that a callee's signature r at the lifetimes κs has of them. The run is the first entry but one
    pub opds-all : K → (r : Side n) (κs : Lfts r.lifetimes) (Ps : List (Passed n)) (bs : Blocks Ps) (xs : Values Ps) {Γ : List (Item 𝓤)} {i : Item 𝓤} (E : Env 𝓤 H) (rest : List (Ty × ℕ)) (f : ℕ → ℕ) → Stand E f (env s Ps bs rest)
        → Opds K 𝓛 (i ∷ ‵ (cells s Ps bs xs) ∷ Γ) E (copies f Ps) (flat (Rows r κs Ps) (machines r κs Ps (args r κs Ps xs)))
    opds-all t r κs [] bs xs E rest f at = record { go = λ Kt h. h }
    opds-all t r κs (P ∷ Ps) bs xs {Γ} {i} E rest f at = record {
      go = λ Kt h.
          let v : Val = P.val xs.0 in
          let c : Item 𝓤 = ‵ (fat full_share (s.form P).ty bs.0 zero v) in
          let d : Item 𝓤 = ‵ (fdies (s.form P).ty bs.0) in
          let cs : Item 𝓤 = ‵ (cells s Ps bs.1 xs.1) in
          let g : ℕ → ℕ = λ j. f (suc j) in
          let vs : List Val = flat (Rows r κs Ps) (machines r κs Ps (args r κs Ps xs.1)) in
          let first : Opd K 𝓛 (c ∷ d ∷ cs ∷ i ∷ Γ) E (copy (place (f zero) [])) v = load t (from_at t {e = ((s.form P).ty, bs.0)} (at zero) (stop t)) (look t 0 refl) in
          let others : Opds K 𝓛 (i ∷ cs ∷ c ∷ d ∷ Γ) E (copies g Ps) vs = opds-all t r κs Ps bs.1 xs.1 E rest g (λ j. at (suc j)) in
          let shut : Seq K 𝓛 (i ∷ cs ∷ c ∷ d ∷ Γ) (prop (Kt (v ∷ vs))) = move t (2 ∷ 3 ∷ 1 ∷ 0 ∷ []) $ fjoin t $ fjoin {Γ = i ∷ Γ} t $ move t (1 ∷ 0 ∷ []) $ by t h in
          let then : Seq K 𝓛 (c ∷ d ∷ cs ∷ i ∷ Γ) (prop (eval_opds 𝓤 H E (copies g Ps) (λ us. Kt (v ∷ us)))) = move t (3 ∷ 2 ∷ []) $ by t (others.go (λ us. Kt (v ∷ us)) shut.prf) in
          let opened : Seq K 𝓛 (i ∷ ‵ (cells s (P ∷ Ps) bs xs) ∷ Γ) (prop (eval_opds 𝓤 H E (copies f (P ∷ Ps)) Kt)) =
          move t (1 ∷ []) $ fsplit t $ fsplit t $ by t (first.go (λ u. eval_opds 𝓤 H E (copies g Ps) (λ us. Kt (u ∷ us))) then.prf) in
          opened.prf;
    }
