-- A call that is its by-value core, lent:
--     fn lent(s: &mut State, ..) -> Answer { let p = core(*s, ..); *s = p.state; p.answer }
-- Whatever the core ensures of the state it was given, the further arguments, the answer and the new state, the lent call ensures of the state
-- behind the reference at entry, the arguments, its answer and the state behind the reference at exit. It holds of any plain state, answer
-- and further parameters, and of any core whose result is a struct of state and answer. All that is known of the core is that it meets its contract.
-- Assumes nothing.
use Prim.Native.Nat.{ℕ, zero, suc}
use mathlib.Core.Path.{◌≡◌, refl, sym, subst}
use mathlib.Core.List.{List, [], ◌∷◌}
use seplogic.Ra.Ura.{Ura}
use base.Fraction.{full_share}
use lib.ListN.{length}
use mir.Syntax.{Callee, Ty, ty_ref, named, mut, deref, field, place, copy, rv_opd, Body, seq, assign, call, return, local, value_local, Fn}
use mir.Val.{Val, vptr}
use base.Logic.{SProp, ent, emp, sep, via, fst∗, snd∗, ex_e, id⊢}
use base.Fml.{Fml, GName, Lft, Share, fat, flft, fobs, fbor}
use prog.Wp.{Calls, Loops, WpFn, Closed, Tables}
use prog.Model.{Model}
use prog.Routine.{Routine, Env}
use types.Logic.{Logic, sem}
use contract.Lifetimes.{Lfts, Shares, toks}
use contract.Monad.{fact}
use contract.Running.{Running, tables, tables_of}
use types.Kit.{‵, raw, ⋆, ◌⊛◌, some, later, ◌$◌, ◌∵◌, !, qed, by, move, drop, use1, use2, split, join, pick, rewrite, fsplit, fsplit3, fjoin, fjoin3, feq_i, suffices, frame, await, done}
use types.Run.{look, look_raw, init, store_raw, forget, stop, hop, fld, from, load, of_opd, and_then, assigns, land, returns, enter, alloc1, alloc0, params1, pass1, free1, free0}
use types.Part.{whole, sub, look_in}
use types.SemTy as SemTy
use sound.WpLaws.{FmC, fm_of, WpFn-mono}
use denote.RattleType.{Denots, owns, flat}
use denote.Laws.{Is, shows}
use denote.Memory.{mem, cell_at, pointee}
use denote.Ref.{MutBor, MutRef, mut_vals, mut_Tells}
use denote.Signature.{plain}
use denote.Steps.{opens, closes, owned, peeks, heard, nothing}
use denote.Struct.Steps.{spelt}
use denote.Triple.Statement.{Triple}
use denote.Triple.Call.{calls_at}
use denote.Triple.Entry.{Args, Vals, on_entry}
use denote.Triple.Table.{entered, cited}
use denote.Triple.Weaken.{weaken}
use denote.Triple.Clauses.{Lasts, at_exit, ensured, lasts}
use denote.Triple.Walked.{says, Stays, stay_ref, walk_of, Goes-ref, ends_at, walked, walk_Meets}
use Rattle.lent.proofs.Plain.{Plain}
use Rattle.lent.proofs.Passed.{Passed, of-core, of-lent, Values, Good, owned-all, stays, goes-all, Rows, values, args, values-args, spelling, telling, machines, good, finals, fitting, had-at-entry, had-at-exit, passes_on}
use Rattle.lent.proofs.Contracts.{Paired, Promise, core-ended, lent-ended, pair_ty, LentEnsures, lent-ensuring, core-clauses, lent-clauses, Core, Lent}
use Rattle.lent.proofs.Locals.{locals, Blocks, env, copies, after, Stand, stand-after, from_at, alloc_all, free_all, pass_all, opds-all}

module _ {B N : Plain} (P : Paired B N) {n : ℕ} (Ps : List (Passed n)) where
  -- ---- the code: the locals after the further parameters are what the core returned, 0, the copy of the state, 1, and the new state on its way, 2
  abbrev nth : ℕ → ℕ
  nth = after (λ j. suc (suc j)) Ps

  abbrev lent-body : Callee → Body
  lent-body core =
      seq (assign (place (nth 1) []) (rv_opd (copy (place 1 (deref B.ty ∷ [])))))
      (seq (call core (copy (place (nth 1) []) ∷ copies (λ j. suc (suc j)) Ps) (place (nth 0) []))
      (seq (assign (place (nth 2) []) (rv_opd (copy (place (nth 0) (field 0 ∷ [])))))
      (seq (assign (place 1 (deref B.ty ∷ [])) (rv_opd (copy (place (nth 2) []))))
      (seq (assign (place 0 []) (rv_opd (copy (place (nth 0) (field 1 ∷ []))))) return))))

  abbrev ref_ty : Ty
  ref_ty = ty_ref (named 0) mut (pointee B.row.written)

  abbrev pub lent-function : Callee → Fn
  lent-function core = record {
    lifetimes = suc n;
    outlives = [];
    ty_params = [];
    givens = 0;
    params = suc (length Ps);
    locals = local N.ty value_local ∷ local ref_ty value_local ∷ locals (of-lent n) Ps (local (pair_ty P Ps) value_local ∷ local B.ty value_local ∷ local B.ty value_local ∷ []);
    body = lent-body core;
  }

  -- the locals with their blocks, and that those after the further parameters stand where their numbers say
  abbrev rest : ℕ → ℕ → ℕ → List (Ty × ℕ)
  rest lp lb lc = (pair_ty P Ps, lp) ∷ (B.ty, lb) ∷ (B.ty, lc) ∷ []

  abbrev places : ℕ → ℕ → Blocks Ps → ℕ → ℕ → ℕ → List (Ty × ℕ)
  places l₀ l₁ ls lp lb lc = (N.ty, l₀) ∷ (ref_ty, l₁) ∷ env (of-lent n) Ps ls (rest lp lb lc)

  stands : (l₀ l₁ : ℕ) (ls : Blocks Ps) (lp lb lc : ℕ) → Stand (places l₀ l₁ ls lp lb lc) nth (rest lp lb lc)
  stands l₀ l₁ ls lp lb lc = stand-after (of-lent n) (places l₀ l₁ ls lp lb lc) (rest lp lb lc) Ps ls (λ j. suc (suc j)) (λ j. refl)

  abbrev stayed : Stays (lent-ended P Ps).signature.params (lent-ended P Ps).kept
  stayed = (stay_ref (0 ∷ []) tt (plain (λ _. B.row)), stays (of-lent n) Ps)

  module _ (S : Promise P Ps) {M : Type 1} {𝓤 : Ura M} (𝓛 : Logic 𝓤) where
    open 𝓛 use {H}

    module _ (κ : Lft) (κs : Lfts n) (q : Share) (qs : Shares n) (b o : ℕ) (γ : GName) (h : B.row.Denot) (a : Denots (Rows (of-lent n) (κ, κs) Ps)) (ok : Good κs Ps (values (of-lent n) (κ, κs) Ps a)) where
      abbrev xs : Values Ps
      xs = values (of-lent n) (κ, κs) Ps a

      abbrev x : MutBor B.row.Denot
      x = record { ref_ptr = (b, o); ghost_name = γ; now = h }

      abbrev vals : Vals (lent-ended P Ps).signature (κ, κs)
      vals = (vptr b o ∷ [], machines (of-lent n) (κ, κs) Ps a)

      abbrev Post : Val → SProp 𝓤
      Post = (walk_of 𝓛 (lent-ended P Ps) stayed (lent-clauses P Ps S 𝓤)).post (((κ, κs), (q, qs), tt, (x, a), vals), tt)

      -- what the further parameters own, and the tokens of their lifetimes
      abbrev own : Fml
      own = owned-all κs Ps xs

      abbrev tokens : SProp 𝓤
      tokens = toks 𝓛 n κs qs

      -- ---- the call of the core
      abbrev passed_on : Denots (Rows (of-core n) κs Ps)
      passed_on = args (of-core n) κs Ps xs

      abbrev to : (Core P Ps 𝓛 (core-clauses P Ps S 𝓤)).Ghost
      to = ((κs, qs, tt, (h, passed_on), (B.val h ∷ [], machines (of-core n) κs Ps passed_on)), tt)

      asked : Is B.row h (B.val h ∷ []) → ent 𝓤 (sep 𝓤 tokens (sem 𝓛 own)) (sep 𝓤 ((Core P Ps 𝓛 (core-clauses P Ps S 𝓤)).pre to) (sem 𝓛 own))
      asked was =
          qed 𝓛 (raw tokens ∷ ‵ own ∷ []) ∵ move ! (1 ∷ []) $ use1 𝓛 (‵ (owns (Rows (of-core n) κs Ps) passed_on (machines (of-core n) κs Ps passed_on)) ⊛ ‵ own) (passes_on (of-core n) κs 𝓛 Ps xs) $ split ! $
          owned ! B.row (Is B.row) (B.makes 𝓛) h (B.val h ∷ []) was $ fjoin ! $ move ! (2 ∷ 0 ∷ []) $ join ! $ nothing ! $ move ! (1 ∷ 0 ∷ []) $ join ! $ frame ! $ done !

      abbrev Told : P.row.Denot → Type 0
      Told r = S h xs (P.answer r) (P.state r)

      abbrev Ensured : P.row.Denot → SProp 𝓤
      Ensured = ensured 𝓛 (core-ended P Ps) (core-clauses P Ps S 𝓤) κs (h, passed_on) tt

      told : (r : P.row.Denot) → ent 𝓤 (Ensured r) (fact 𝓤 (Told r))
      told r = subst (λ (ys : Values Ps). ent 𝓤 (Ensured r) (fact 𝓤 (S h ys (P.answer r) (P.state r)))) (values-args (of-core n) κs Ps xs)
          (ex_e 𝓤 _ (λ ws. snd∗ 𝓤 (sem 𝓛 (lasts (core-ended P Ps) κs (h, passed_on) ws)) (fact 𝓤 (S h (values (of-core n) κs Ps passed_on) (P.answer r) (P.state r)))))

      exits : (r : P.row.Denot) → Is N.row (P.answer r) (N.val (P.answer r) ∷ []) → Told r
          → ent 𝓤 (⋆ 𝓛 (‵ (fobs γ (B.row.coded.code (P.state r))) ∷ ‵ (fbor κ (SemTy.Body (mem B.row) b o γ)) ∷ ‵ (flft κ q) ∷ raw tokens ∷ ‵ own ∷ [])) (Post (N.val (P.answer r)))
      exits r is e =
          qed 𝓛 (‵ (fobs γ (B.row.coded.code (P.state r))) ∷ ‵ (fbor κ (SemTy.Body (mem B.row) b o γ)) ∷ ‵ (flft κ q) ∷ raw tokens ∷ ‵ own ∷ []) ∵
          suffices ! _ (ends_at 𝓛 (lent-ended P Ps) stayed (lent-clauses P Ps S 𝓤) (((κ, κs), (q, qs), tt, (x, a), vals), tt) (N.val (P.answer r)) (P.answer r) (P.state r, finals (of-lent n) (κ, κs) Ps a) (tt, fitting (of-lent n) (κ, κs) Ps a)) $ says ! e $
          move ! (2 ∷ 3 ∷ []) $ join ! $ frame ! $ feq_i ! (List Val) (vptr b o ∷ []) (vptr b o ∷ []) refl $ fjoin3 ! $
          rewrite ! 1 (λ (F : Fml). ‵ F) (had-at-exit (of-lent n) (κ, κs) Ps a) refl $ fjoin ! $ frame ! $ owned ! N.row (Is N.row) (N.makes 𝓛) (P.answer r) _ is $ done !

      module _ (core : Callee) (C : Calls 𝓤 H) (Λ : Loops 𝓤 H) (fm : FmC 𝓤 H 𝓛.laws C) (known : Triple 𝓤 (C core) (Core P Ps 𝓛 (core-clauses P Ps S 𝓤))) where
        abbrev vs : List Val
        vs = vptr b o ∷ flat (Rows (of-lent n) (κ, κs) Ps) (machines (of-lent n) (κ, κs) Ps a)

        walk : ent 𝓤 (on_entry 𝓛 (lent-ended P Ps).signature (κ, κs) (q, qs) (x, a) vals) (WpFn 𝓤 H C Λ (lent-function core) vs Post)
        walk =
            qed 𝓛 ((‵ (flft κ q) ⊛ raw tokens) ∷ ‵ (owns (MutRef (named 0) κ B.row ∷ Rows (of-lent n) (κ, κs) Ps) (x, a) vals) ∷ []) ∵
            split ! $ move ! (2 ∷ []) $ fsplit ! $ fsplit3 ! $ drop ! $ move ! (0 ∷ 1 ∷ 3 ∷ []) $ rewrite ! 3 (λ (F : Fml). ‵ F) (had-at-entry (of-lent n) (κ, κs) Ps a) refl $
            -- [obs; the borrow; its token; what the further parameters own; their tokens]
            enter ! C Λ (lent-function core) vs _ $ alloc1 ! (λ l₀. alloc1 ! (λ l₁. alloc_all (of-lent n) ! Ps (λ ls. alloc1 ! (λ lp. alloc1 ! (λ lb. alloc1 ! (λ lc. alloc0 ! $ params1 ! $ pass1 ! (init ! 7 refl (tt, tt)) $
            move ! (6 ∷ []) $ pass_all (of-lent n) ! (κ, κs) Ps ls a ok (rest lp lb lc) $
            -- [the further parameters; room for the new state; …; room for the copy; …; room for the pair; …; _1; …; room for _0; …; obs; the borrow; its token; what they own; their tokens]
            move ! (11 ∷ 12 ∷ 13 ∷ []) $ opens ! tt B.row {h = h} b o (λ us. spelt ! B.row (Is B.row) (shows 𝓛 B.row) (λ y. B.val y ∷ []) B.tells full_share h us b o $
            move ! (1 ∷ []) $ peeks ! B.row (Is B.row) (shows 𝓛 B.row) h (B.val h ∷ []) (λ was. move ! (1 ∷ 0 ∷ []) $
            rewrite ! 0 (λ (τs : List Ty). ‵ (cell_at full_share τs (B.val h ∷ []) b o)) B.one refl $
            -- [the state's cell; what it owns; the open borrow; obs; auth; the further parameters; room for the new state; …; room for the copy; …; room for the pair; …; _1; …; room for _0; …; what they own; their tokens]
            assigns ! (of_opd ! (load ! (from ! (hop ! (look ! 12 refl) (stop !))) (look_raw ! 0 refl))) (from_at ! (stands l₀ l₁ ls lp lb lc 1) (stop !)) (init ! 8 refl (B.typed 𝓛 h _ was)) $
            move ! (17 ∷ 16 ∷ 5 ∷ []) $ use2 𝓛 (raw ((Core P Ps 𝓛 (core-clauses P Ps S 𝓤)).pre to) ⊛ ‵ own) (asked was) $ split ! $ move ! (0 ∷ 2 ∷ []) $
            calls_at ! fm (Core P Ps 𝓛 (core-clauses P Ps S 𝓤)) known to
            (and_then ! (load ! (from_at ! (stands l₀ l₁ ls lp lb lc 1) (stop !)) (look ! 10 refl)) (opds-all (of-lent n) ! (of-core n) κs Ps ls xs (places l₀ l₁ ls lp lb lc) (rest lp lb lc) (λ j. suc (suc j)) (λ j. refl))) (λ v.
            use1 𝓛 (later (some (λ (r : P.row.Denot). (raw tokens ⊛ ‵ (P.row.own_val r (v ∷ []))) ⊛ raw (Ensured r)))) (id⊢ 𝓤 _) $ await ! tt $ pick ! (λ r.
            split ! $ move ! (1 ∷ []) $ use1 𝓛 (raw (fact 𝓤 (Told r))) (told r) $ heard ! (Told r) (λ e. split ! $ move ! (1 ∷ []) $
            peeks ! P.row (Is P.row) (shows 𝓛 P.row) r (v ∷ []) (λ is.
            -- [what the pair owns; their tokens; the further parameters; what they own; the state's cell; …; the open borrow; obs; auth; room for the new state; …; the copy; …; room for the pair; …; _1; …; room for _0; …]
            land ! (from_at ! (stands l₀ l₁ ls lp lb lc 0) (stop !)) (init ! 13 refl (P.typed 𝓛 r v is)) $
            rewrite ! 13 (λ (u : Val). ‵ (fat full_share (pair_ty P Ps) lp zero u)) (P.parts r v is).0 refl $
            assigns ! (of_opd ! (load ! (from_at ! (stands l₀ l₁ ls lp lb lc 0) (fld ! refl (stop !))) (look_in ! 13 (sub ! 0 refl (whole !))))) (from_at ! (stands l₀ l₁ ls lp lb lc 2) (stop !)) (init ! 9 refl (B.typed 𝓛 (P.state r) _ (P.parts r v is).1)) $
            assigns ! (of_opd ! (load ! (from_at ! (stands l₀ l₁ ls lp lb lc 2) (stop !)) (look ! 9 refl))) (from ! (hop ! (look ! 15 refl) (stop !))) (store_raw ! 4 refl (B.typed 𝓛 (P.state r) _ (P.parts r v is).1)) $
            assigns ! (of_opd ! (load ! (from_at ! (stands l₀ l₁ ls lp lb lc 0) (fld ! refl (stop !))) (look_in ! 13 (sub ! 1 refl (whole !))))) (from ! (stop !)) (init ! 17 refl (N.typed 𝓛 (P.answer r) _ (P.parts r v is).2)) $
            drop ! $ move ! (4 ∷ []) $ drop ! $ owned ! B.row (Is B.row) (B.makes 𝓛) (P.state r) (B.val (P.state r) ∷ []) (P.parts r v is).1 $
            move ! (4 ∷ 0 ∷ 5 ∷ 6 ∷ 7 ∷ []) $ rewrite ! 0 (λ (τs : List Ty). ‵ (cell_at full_share τs (B.val (P.state r) ∷ []) b o)) (sym B.one) refl $
            closes ! tt B.row (P.state r) (B.val (P.state r) ∷ []) b o $
            -- [obs; the borrow; its token; their tokens; the further parameters; what they own; the new state; …; the copy; …; the pair; …; _1; …; _0; …]
            returns ! (look ! 14 refl) $ forget ! 6 refl $ forget ! 8 refl $ forget ! 10 refl $ forget ! 12 refl $ forget ! 14 refl $
            move ! (14 ∷ 15 ∷ []) $ free1 ! $ move ! (12 ∷ 13 ∷ []) $ free1 ! $ move ! (4 ∷ []) $ free_all (of-lent n) ! Ps ls xs $ move ! (9 ∷ 10 ∷ []) $ free1 ! $ move ! (7 ∷ 8 ∷ []) $ free1 ! $ move ! (5 ∷ 6 ∷ []) $ free1 ! $
            free0 ! $
            by ! (exits r (P.parts r v is).2 e)))))))))))))

    lent-meets : (core : Callee) (𝓣 : Tables 𝓤 H) → Triple 𝓤 (𝓣.C core) (Core P Ps 𝓛 (core-clauses P Ps S 𝓤)) → Triple 𝓤 (WpFn 𝓤 H 𝓣.C 𝓣.Λ (lent-function core)) (Lent P Ps 𝓛 (lent-clauses P Ps S 𝓤))
    lent-meets core 𝓣 known =
        walk_Meets 𝓛 (lent-ended P Ps) stayed (Goes-ref 𝓛 (suc n) 0 tt (plain (λ _. B.row)), goes-all (of-lent n) 𝓛 Ps) (lent-clauses P Ps S 𝓤)
        (WpFn 𝓤 H 𝓣.C 𝓣.Λ (lent-function core)) (WpFn-mono 𝓤 H 𝓛.laws 𝓣 (lent-function core))
        (walked 𝓛 (lent-ended P Ps) stayed (lent-clauses P Ps S 𝓤) (WpFn 𝓤 H 𝓣.C 𝓣.Λ (lent-function core))
        (λ κs. (mut_vals, spelling (of-lent n) κs Ps)) (λ κs. (mut_Tells (named 0) κs.0 B.row, telling (of-lent n) κs Ps))
        (λ κs qs bounds a _ are. via 𝓤 _ (fst∗ 𝓤 _ (emp 𝓤))
        (walk κs.0 κs.1 qs.0 qs.1 a.0.ref_ptr.0 a.0.ref_ptr.1 a.0.ghost_name a.0.now a.1 (good (of-lent n) κs Ps a.1 are.1) core 𝓣.C 𝓣.Λ (fm_of 𝓤 H 𝓛.laws 𝓣) known)))

  -- the same of the routines: the core's theorem gives the lent call's, whatever that ensures of what is promised
  pub lent-call : (S : Promise P Ps) {M : Type 1} {𝓤 : Ura M} (𝓛 : Logic 𝓤) (𝓜 : Model 𝓤 𝓛.H) (𝓡 : Running 𝓤 𝓛.H 𝓜) (γ : Env) (k core : Callee) (r : Routine)
      → Closed 𝓤 𝓛.H (tables 𝓤 𝓛.H 𝓜 𝓡 γ).C (tables 𝓤 𝓛.H 𝓜 𝓡 γ).Λ k (lent-function core) → γ core ≡ r → Triple 𝓤 (𝓡.run r) (Core P Ps 𝓛 (core-clauses P Ps S 𝓤))
      → (E : LentEnsures P Ps 𝓤) → ((κs : Lfts (suc n)) (a : Args (lent-ended P Ps).signature κs) (res : N.row.Denot) (ws : Lasts (lent-ended P Ps) κs a)
      → ent 𝓤 (fact 𝓤 (S a.0.now (values (of-lent n) κs Ps a.1) res ws.0)) (E κs a tt res (at_exit (lent-ended P Ps) κs a ws)))
      → Triple 𝓤 (𝓡.run (γ k)) (Lent P Ps 𝓛 (lent-ensuring P Ps 𝓤 E))
  unfolding tables_of
  lent-call S {𝓤 = 𝓤} 𝓛 𝓜 𝓡 γ k core r unfolds calls met E ensures =
      let 𝓣 : Tables 𝓤 𝓛.H = tables_of 𝓤 𝓛.H 𝓜 (tables 𝓤 𝓛.H 𝓜 𝓡 γ) in
      entered 𝓤 𝓛.H (Lent P Ps 𝓛 (lent-ensuring P Ps 𝓤 E)) (tables 𝓤 𝓛.H 𝓜 𝓡 γ).C (tables 𝓤 𝓛.H 𝓜 𝓡 γ).Λ k (lent-function core) unfolds
      (weaken 𝓛 (lent-ended P Ps) (lent-clauses P Ps S 𝓤) E (λ κs a g res ws. ensures κs a res ws) (WpFn 𝓤 𝓛.H 𝓣.C 𝓣.Λ (lent-function core)) (WpFn-mono 𝓤 𝓛.H 𝓛.laws 𝓣 (lent-function core))
      (lent-meets S 𝓛 core 𝓣 (cited 𝓤 𝓛.H (Core P Ps 𝓛 (core-clauses P Ps S 𝓤)) 𝓜 𝓡 γ core r calls met)))
