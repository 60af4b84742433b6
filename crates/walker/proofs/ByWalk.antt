-- From a walk over a function's code to its contract, for a function that leaves each parameter as it was passed and asks for nothing.
-- Assumes nothing.
use mathlib.Core.Path.{◌≡◌}
use mathlib.Core.List.{List, [], ◌∷◌}
use Prim.Native.Nat.{ℕ}
use seplogic.Ra.Ura.{Ura}
use mir.Syntax.{Fn, Callee}
use mir.Val.{Val}
use base.Logic.{SProp, ent, via, fst∗}
use base.Fml.{ftrue}
use prog.Model.{Model}
use prog.Routine.{Env}
use prog.Wp.{WpFn, Closed, Tables}
use types.Logic.{Logic}
use sound.WpLaws.{WpFn-mono}
use contract.Lifetimes.{Lfts, Shares, AllOutlive}
use contract.Running.{Running, tables, tables_of}
use denote.RattleType.{Denots, flat}
use denote.Laws.{Are, Ises, Spells, valss, Tellss}
use denote.Exit.{Last, left}
use denote.Signature.{Slot, types_at}
use denote.Triple.End.{Kepts, Fins}
use denote.Triple.Entry.{Args, Res, on_entry}
use denote.Triple.Spec.{Meets, triple_of}
use denote.Triple.Table.{entered}
use denote.Triple.Clauses.{Clauses, Ended, Lasts, closing}
use denote.Triple.Walked.{Stays, fits_of, AllGo, Goes-Silent, Ending, walk_of, ends_at, walked, walk_Meets}

-- each parameter is owned at the end as it was at the start
abbrev pub unchanged : {n : ℕ} (ss : List (Slot n)) (ks : Kepts ss) → Stays ss ks
unchanged [] ks = tt
unchanged (s ∷ ss) ks = (record { fit = λ κs x f. Unit {0}; has = λ κs x f vs. (s.row κs).own_val x vs }, unchanged ss ks.1)

fit : {n : ℕ} (κs : Lfts n) (ss : List (Slot n)) (ks : Kepts ss) (a : Denots (types_at ss κs)) (ws : Fins κs ss ks a) → fits_of κs ss ks (unchanged ss ks) a ws
fit κs [] ks a ws = tt
fit κs (s ∷ ss) ks a ws = (tt, fit κs ss ks.1 a.1 ws.1)

-- and the contract says nothing of a last value
abbrev pub Silents : (n : ℕ) (ss : List (Slot n)) → Kepts ss → Type 1
Silents n [] ks = Unit {1}
Silents n (s ∷ ss) ks =
    ((κs : Lfts n) (x : (s.row κs).Denot) (f : Last ((s.row κs).exit ks.0) x) → left ((s.row κs).exit ks.0) x f ≡ ftrue) × Silents n ss ks.1

module _ {M : Type 1} {𝓤 : Ura M} (𝓛 : Logic 𝓤) (E : Ended) (c : Clauses 𝓤 E) where
  abbrev stay : Stays E.signature.params E.kept
  stay = unchanged E.signature.params E.kept

  -- what a walk is given, and what it has to come to
  abbrev pub Begun : Type 0
  Begun = (walk_of 𝓛 E stay c).Ghost

  abbrev pub Post : Begun → Val → SProp 𝓤
  Post y v = (walk_of 𝓛 E stay c).post y v

  pub ends : (y : Begun) (v : Val) (r : Res E.signature y.0.0) (ws : Lasts E y.0.0 y.0.3) → ent 𝓤 (Ending 𝓛 E stay c y v r ws) (Post y v)
  ends y v r ws = ends_at 𝓛 E stay c y v r ws (fit y.0.0 E.signature.params E.kept y.0.3 ws)

all_go : {M : Type 1} {𝓤 : Ura M} (𝓛 : Logic 𝓤) (n : ℕ) (ss : List (Slot n)) (ks : Kepts ss) → Silents n ss ks → AllGo 𝓛 n ss ks (unchanged ss ks)
all_go 𝓛 n [] ks silent = tt
all_go 𝓛 n (s ∷ ss) ks silent = (Goes-Silent 𝓛 n s ks.0 (unchanged (s ∷ ss) ks).0 silent.0, all_go 𝓛 n ss ks.1 silent.1)

module _ {M : Type 1} {𝓤 : Ura M} (𝓛 : Logic 𝓤) (𝓜 : Model 𝓤 𝓛.H) (𝓡 : Running 𝓤 𝓛.H 𝓜) (E : Ended) (c : Clauses 𝓤 E) (γ : Env) (k : Callee) (f : Fn)
    (closed : Closed 𝓤 𝓛.H (tables 𝓤 𝓛.H 𝓜 𝓡 γ).C (tables 𝓤 𝓛.H 𝓜 𝓡 γ).Λ k f) where
  open 𝓛 use {H}

  abbrev 𝓣 : Tables 𝓤 H
  𝓣 = tables_of 𝓤 H 𝓜 (tables 𝓤 H 𝓜 𝓡 γ)

  pub by-walk : Silents E.signature.lifetimes E.signature.params E.kept → (spelt : (κs : Lfts E.signature.lifetimes) → Spells (types_at E.signature.params κs))
      → ((κs : Lfts E.signature.lifetimes) → Tellss (types_at E.signature.params κs) (Ises (types_at E.signature.params κs)) (spelt κs))
      → ((κs : Lfts E.signature.lifetimes) (qs : Shares E.signature.lifetimes) (bounds : AllOutlive E.signature.lifetimes E.signature.outlives κs) (a : Args E.signature κs) (g : (c κs a).ghost)
      → Are (types_at E.signature.params κs) (Ises (types_at E.signature.params κs)) a (valss (types_at E.signature.params κs) (spelt κs) a)
      → ent 𝓤 (on_entry 𝓛 E.signature κs qs a (valss (types_at E.signature.params κs) (spelt κs) a))
      (WpFn 𝓤 H 𝓣.C 𝓣.Λ f (flat (types_at E.signature.params κs) (valss (types_at E.signature.params κs) (spelt κs) a)) (Post 𝓛 E c ((κs, qs, bounds, a, valss (types_at E.signature.params κs) (spelt κs) a), g))))
      → Meets 𝓛 E.signature ((tables 𝓤 H 𝓜 𝓡 γ).C k) (closing 𝓛 E c)
  unfolding tables_of
  by-walk silent spelt tells walk =
      entered 𝓤 H (triple_of 𝓛 E.signature (closing 𝓛 E c)) 𝓣.C 𝓣.Λ k f closed
      (walk_Meets 𝓛 E (stay 𝓛 E c) (all_go 𝓛 E.signature.lifetimes E.signature.params E.kept silent) c (WpFn 𝓤 H 𝓣.C 𝓣.Λ f) (WpFn-mono 𝓤 H 𝓛.laws 𝓣 f)
      (walked 𝓛 E (stay 𝓛 E c) c (WpFn 𝓤 H 𝓣.C 𝓣.Λ f) spelt tells (λ κs qs bounds a g are. via 𝓤 _ (fst∗ 𝓤 _ ((c κs a).requires g)) (walk κs qs bounds a g are))))
