-- A function by value that lends a local to a lent call:
--     fn held(mut s: State, ..) -> Pair { let answer = lent(&mut s, ..); Pair { state: s, answer } }
-- It keeps the core's own promise, so code that holds its state by value, and is covered, can go through the lent call. All that is known of the lent
-- call is that it meets its contract. The local is lent for a lifetime that is made for the call, and comes back at the state that the call left.
-- Assumes nothing.
use Prim.Native.Nat.{ℕ, zero, suc}
use mathlib.Core.Path.{◌≡◌, refl, sym, ap, subst}
use mathlib.Core.List.{List, [], ◌∷◌}
use seplogic.Ra.Ura.{Ura}
use base.Fraction.{full_share}
use lib.ListN.{length}
use mir.Syntax.{Callee, Ty, ty_ref, erased, named, mut, place, copy, rv_opd, addr_of, aggregate, Body, seq, assign, call, return, local, value_local, memory_slot, Fn}
use mir.Val.{Val, vptr, vstruct, vcons, vnil}
use base.Logic.{SProp, ent, emp, sep, guard, via, fst∗, id⊢}
use base.Fml.{Fml, GName, fsep, fat, flft, flent}
use prog.Wp.{Calls, Loops, WpFn, Closed, Tables}
use prog.Model.{Model}
use prog.Routine.{Routine, Env}
use types.Logic.{Logic, sem}
use contract.Lifetimes.{Lfts, Shares, toks}
use contract.Monad.{fact}
use contract.Running.{Running, tables, tables_of}
use types.Kit.{‵, raw, ◌⊛◌, given, some, later, ◌$◌, ◌∵◌, !, qed, by, move, keep, drop, use1, use3, split, join, pick, learn, check, rewrite, fsplit, fjoin, fpick, fpack, suffices, frame, await, done}
use types.Run.{look, init, forget, stop, from, load, addr, of_opd, and_then, no_more, assigns, land, returns, enter, alloc1, alloc0, params1, pass1, free1, free0}
use types.Part.{agg}
use types.SemTy as SemTy
use types.Tokens.{lft_new, lft_end}
use sound.WpLaws.{FmC, fm_of, WpFn-mono}
use denote.RattleType.{Denots, owns, flat}
use denote.Laws.{Is, shows}
use denote.Memory.{mem, cell_at, part_of, pointee}
use denote.Ref.{MutBor, MutRef}
use denote.Lend.{lends_ref, ref_back}
use denote.Steps.{only, owned, peeks, facts, heard, nothing}
use denote.Struct.Steps.{spelt}
use denote.Triple.Statement.{Triple}
use denote.Triple.Call.{calls_at}
use denote.Triple.Entry.{Args, Vals, on_entry}
use denote.Triple.Table.{entered, cited}
use denote.Triple.Weaken.{weaken}
use denote.Triple.Clauses.{Lasts, at_exit, ensured, lasts}
use denote.Triple.Walked.{says, Stays, stay_none, walk_of, Goes-none, ends_at, walked, walk_Meets}
use denote.Exit.{yes}
use Rattle.lent.proofs.Plain.{Plain}
use Rattle.lent.proofs.Passed.{Passed, of-core, of-lent, Values, Good, owned-all, stays, goes-all, Rows, values, args, values-args, spelling, telling, machines, good, finals, fitting, had-at-entry, had-at-exit, passes_on}
use Rattle.lent.proofs.Locals.{locals, Blocks, env, copies, after, Stand, stand-after, from_at, alloc_all, free_all, pass_all, opds-all}
use Rattle.lent.proofs.Contracts.{Paired, Promise, core-ended, lent-ended, pair_ty, CoreEnsures, core-ensuring, core-clauses, lent-clauses, Core, Lent}

-- ---- a state in a local is a state that can be lent, and back
module _ (B : Plain) {M : Type 1} {𝓤 : Ura M} (𝓛 : Logic 𝓤) (h : B.row.Denot) (l : ℕ) where
  open 𝓛 use {H}

  can-lend : Is B.row h (B.val h ∷ []) → ent 𝓤 (H.at full_share B.ty l zero (B.val h)) (sem 𝓛 ((mem B.row).own_at h l zero))
  unfolding part_of
  can-lend is =
      qed 𝓛 (‵ (fat full_share B.ty l zero (B.val h)) ∷ []) ∵ use1 𝓛 (‵ (cell_at full_share (B.ty ∷ []) (B.val h ∷ []) l zero)) (𝓛.laws.at_raw full_share B.ty l zero (B.val h)) $
      rewrite ! 0 (λ (τs : List Ty). ‵ (cell_at full_share τs (B.val h ∷ []) l zero)) (sym B.one) refl $ owned ! B.row (Is B.row) (B.makes 𝓛) h (B.val h ∷ []) is $
      move ! (1 ∷ 0 ∷ []) $ fjoin ! $ fpack ! (List Val) (λ us. fsep (cell_at full_share B.row.mir us l zero) (B.row.own_val h us)) (B.val h ∷ []) $ done !

  comes_back : ent 𝓤 (sem 𝓛 ((mem B.row).own_at h l zero)) (guard 𝓤 (Is B.row h (B.val h ∷ [])) (H.at full_share B.ty l zero (B.val h)))
  unfolding part_of
  comes_back =
      qed 𝓛 (‵ ((mem B.row).own_at h l zero) ∷ []) ∵ fpick ! (λ us. fsplit ! $ spelt ! B.row (Is B.row) (shows 𝓛 B.row) (λ y. B.val y ∷ []) B.tells full_share h us l zero $
      move ! (1 ∷ []) $ facts ! B.row (Is B.row) (shows 𝓛 B.row) h (B.val h ∷ []) (λ is. rewrite ! 0 (λ (τs : List Ty). ‵ (cell_at full_share τs (B.val h ∷ []) l zero)) B.one refl $
      check ! is $ use1 𝓛 (‵ (fat full_share B.ty l zero (B.val h))) (𝓛.laws.raw_at full_share B.ty l zero (B.val h)) $ done !))

module _ {B N : Plain} (P : Paired B N) {n : ℕ} (Ps : List (Passed n)) where
  -- ---- the code: the locals after the further parameters are the state, 0, the answer, 1, the reference, 2, and a copy of the state, 3
  abbrev nth : ℕ → ℕ
  nth = after (λ j. suc (suc j)) Ps

  abbrev held-body : Callee → Body
  held-body lent =
      seq (assign (place (nth 0) []) (rv_opd (copy (place 1 []))))
      (seq (assign (place (nth 2) []) (addr_of (place (nth 0) [])))
      (seq (call lent (copy (place (nth 2) []) ∷ copies (λ j. suc (suc j)) Ps) (place (nth 1) []))
      (seq (assign (place (nth 3) []) (rv_opd (copy (place (nth 0) []))))
      (seq (assign (place 0 []) (aggregate (copy (place (nth 3) []) ∷ copy (place (nth 1) []) ∷ []))) return))))

  abbrev ref_ty : Ty
  ref_ty = ty_ref erased mut (pointee B.row.written)

  abbrev pub held-function : Callee → Fn
  held-function lent = record {
    lifetimes = n;
    outlives = [];
    ty_params = [];
    givens = 0;
    params = suc (length Ps);
    locals = local (pair_ty P Ps) value_local ∷ local B.ty value_local ∷ locals (of-core n) Ps (local B.ty memory_slot ∷ local N.ty value_local ∷ local ref_ty value_local ∷ local B.ty value_local ∷ []);
    body = held-body lent;
  }

  -- the locals with their blocks, and that those after the further parameters stand where their numbers say
  abbrev rest : ℕ → ℕ → ℕ → ℕ → List (Ty × ℕ)
  rest l₂ l₃ l₄ l₅ = (B.ty, l₂) ∷ (N.ty, l₃) ∷ (ref_ty, l₄) ∷ (B.ty, l₅) ∷ []

  abbrev places : ℕ → ℕ → Blocks Ps → ℕ → ℕ → ℕ → ℕ → List (Ty × ℕ)
  places l₀ l₁ ls l₂ l₃ l₄ l₅ = (pair_ty P Ps, l₀) ∷ (B.ty, l₁) ∷ env (of-core n) Ps ls (rest l₂ l₃ l₄ l₅)

  stands : (l₀ l₁ : ℕ) (ls : Blocks Ps) (l₂ l₃ l₄ l₅ : ℕ) → Stand (places l₀ l₁ ls l₂ l₃ l₄ l₅) nth (rest l₂ l₃ l₄ l₅)
  stands l₀ l₁ ls l₂ l₃ l₄ l₅ = stand-after (of-core n) (places l₀ l₁ ls l₂ l₃ l₄ l₅) (rest l₂ l₃ l₄ l₅) Ps ls (λ j. suc (suc j)) (λ j. refl)

  abbrev stayed : Stays (core-ended P Ps).signature.params (core-ended P Ps).kept
  stayed = (stay_none (λ _. B.row) yes, stays (of-core n) Ps)

  module _ (S : Promise P Ps) {M : Type 1} {𝓤 : Ura M} (𝓛 : Logic 𝓤) where
    open 𝓛 use {H, A}

    module _ (κs : Lfts n) (qs : Shares n) (h : B.row.Denot) (was : Is B.row h (B.val h ∷ [])) (a : Denots (Rows (of-core n) κs Ps)) (ok : Good κs Ps (values (of-core n) κs Ps a)) where
      abbrev xs : Values Ps
      xs = values (of-core n) κs Ps a

      abbrev vals : Vals (core-ended P Ps).signature κs
      vals = (B.val h ∷ [], machines (of-core n) κs Ps a)

      abbrev Post : Val → SProp 𝓤
      Post = (walk_of 𝓛 (core-ended P Ps) stayed (core-clauses P Ps S 𝓤)).post ((κs, qs, tt, (h, a), vals), tt)

      -- what the further parameters own, and the tokens of their lifetimes
      abbrev own : Fml
      own = owned-all κs Ps xs

      abbrev tokens : SProp 𝓤
      tokens = toks 𝓛 n κs qs

      -- ---- the lent call, on the local at block l, lent for the lifetime ν under the name γ
      module _ (ν l : ℕ) (γ : GName) where
        abbrev x : MutBor B.row.Denot
        x = record { ref_ptr = (l, zero); ghost_name = γ; now = h }

        abbrev ref : Fml
        ref = (MutRef (named 0) (ν ∷ []) B.row).own_val x (vptr l zero ∷ [])

        abbrev passed_on : Denots (Rows (of-lent n) (ν ∷ [], κs) Ps)
        passed_on = args (of-lent n) (ν ∷ [], κs) Ps xs

        abbrev to : (Lent P Ps 𝓛 (lent-clauses P Ps S 𝓤)).Ghost
        to = (((ν ∷ [], κs), (full_share, qs), tt, (x, passed_on), (vptr l zero ∷ [], machines (of-lent n) (ν ∷ [], κs) Ps passed_on)), tt)

        asked : ent 𝓤 (sep 𝓤 (sep 𝓤 (A.lft (ν ∷ []) full_share) tokens) (sep 𝓤 (sem 𝓛 ref) (sem 𝓛 own))) (sep 𝓤 ((Lent P Ps 𝓛 (lent-clauses P Ps S 𝓤)).pre to) (sem 𝓛 own))
        asked =
            qed 𝓛 ((‵ (flft (ν ∷ []) full_share) ⊛ raw tokens) ∷ ‵ ref ∷ ‵ own ∷ []) ∵ move ! (2 ∷ []) $
            use1 𝓛 (‵ (owns (Rows (of-lent n) (ν ∷ [], κs) Ps) passed_on (machines (of-lent n) (ν ∷ [], κs) Ps passed_on)) ⊛ ‵ own) (passes_on (of-lent n) (ν ∷ [], κs) 𝓛 Ps xs) $ split ! $
            move ! (3 ∷ 0 ∷ []) $ fjoin ! $ move ! (2 ∷ 0 ∷ []) $ join ! $ nothing ! $ move ! (1 ∷ 0 ∷ []) $ join ! $ frame ! $ done !

        abbrev Ensured : N.row.Denot → SProp 𝓤
        Ensured = ensured 𝓛 (lent-ended P Ps) (lent-clauses P Ps S 𝓤) (ν ∷ [], κs) (x, passed_on) tt

        abbrev Left : Type 0
        Left = Lasts (lent-ended P Ps) (ν ∷ [], κs) (x, passed_on)

        abbrev Told : N.row.Denot → Left → Type 0
        Told r ws = S h (values (of-lent n) (ν ∷ [], κs) Ps passed_on) r ws.0

        kept : (r : N.row.Denot) (ws : Left) → Told r ws → S h xs (P.answer (P.both ws.0 r)) (P.state (P.both ws.0 r))
        kept r ws e =
            subst (λ (b : B.row.Denot). S h xs (P.answer (P.both ws.0 r)) b) (sym (P.state_both ws.0 r))
            (subst (λ (m : N.row.Denot). S h xs m ws.0) (sym (P.answer_both ws.0 r)) (subst (λ (ys : Values Ps). S h ys r ws.0) (values-args (of-lent n) (ν ∷ [], κs) Ps xs) e))

      abbrev pair_val : B.row.Denot → N.row.Denot → Val
      pair_val b r = vstruct (vcons (B.val b) (vcons (N.val r) vnil))

      exits : (b : B.row.Denot) (r : N.row.Denot) → Is P.row (P.both b r) (pair_val b r ∷ []) → S h xs (P.answer (P.both b r)) (P.state (P.both b r)) → ent 𝓤 (sep 𝓤 tokens (sem 𝓛 own)) (Post (pair_val b r))
      exits b r is e =
          qed 𝓛 (raw tokens ∷ ‵ own ∷ []) ∵
          suffices ! _ (ends_at 𝓛 (core-ended P Ps) stayed (core-clauses P Ps S 𝓤) ((κs, qs, tt, (h, a), vals), tt) (pair_val b r) (P.both b r) (B.last h, finals (of-core n) κs Ps a) (tt, fitting (of-core n) κs Ps a)) $ says ! e $
          frame ! $ rewrite ! 0 (λ (F : Fml). ‵ F) (had-at-exit (of-core n) κs Ps a) refl $ owned ! B.row (Is B.row) (B.makes 𝓛) h (B.val h ∷ []) was $ fjoin ! $ frame ! $
          owned ! P.row (Is P.row) (P.makes 𝓛) (P.both b r) _ is $ done !

      module _ (lent : Callee) (C : Calls 𝓤 H) (Λ : Loops 𝓤 H) (fm : FmC 𝓤 H 𝓛.laws C) (known : Triple 𝓤 (C lent) (Lent P Ps 𝓛 (lent-clauses P Ps S 𝓤))) where
        abbrev vs : List Val
        vs = B.val h ∷ flat (Rows (of-core n) κs Ps) (machines (of-core n) κs Ps a)

        walk : ent 𝓤 (on_entry 𝓛 (core-ended P Ps).signature κs qs (h, a) vals) (WpFn 𝓤 H C Λ (held-function lent) vs Post)
        walk =
            qed 𝓛 (raw tokens ∷ ‵ (owns (B.row ∷ Rows (of-core n) κs Ps) (h, a) vals) ∷ []) ∵ move ! (1 ∷ []) $ fsplit ! $ drop ! $ rewrite ! 0 (λ (F : Fml). ‵ F) (had-at-entry (of-core n) κs Ps a) refl $
            -- [what the further parameters own; their tokens]
            enter ! C Λ (held-function lent) vs _ $
            alloc1 ! (λ l₀. alloc1 ! (λ l₁. alloc_all (of-core n) ! Ps (λ ls. alloc1 ! (λ l₂. alloc1 ! (λ l₃. alloc1 ! (λ l₄. alloc1 ! (λ l₅. alloc0 ! $ params1 ! $ pass1 ! (init ! 9 refl (B.typed 𝓛 h _ was)) $
            move ! (8 ∷ []) $ pass_all (of-core n) ! κs Ps ls a ok (rest l₂ l₃ l₄ l₅) $
            -- [the further parameters; room for the copy; …; room for the reference; …; room for the answer; …; room for the state; …; _1; …; room for _0; …; what they own; their tokens]
            assigns ! (of_opd ! (load ! (from ! (stop !)) (look ! 9 refl))) (from_at ! (stands l₀ l₁ ls l₂ l₃ l₄ l₅ 0) (stop !)) (init ! 7 refl (B.typed 𝓛 h _ was)) $
            assigns ! (addr ! (from_at ! (stands l₀ l₁ ls l₂ l₃ l₄ l₅ 0) (stop !))) (from_at ! (stands l₀ l₁ ls l₂ l₃ l₄ l₅ 2) (stop !)) (init ! 3 refl (tt, tt)) $
            -- the state is lent for a lifetime ν of the call
            move ! (7 ∷ []) $ use1 𝓛 (‵ ((mem B.row).own_at h l₂ zero)) (can-lend B 𝓛 h l₂ was) $ lft_new ! tt (λ ν. move ! (1 ∷ []) $
            use1 𝓛 (later (some (λ (γ : GName). ‵ (ref ν l₂ γ) ⊛ ‵ (flent (ν ∷ []) (SemTy.Body (mem B.row) l₂ zero γ))))) (lends_ref 𝓛 B.row (named 0) (ν ∷ []) h l₂ zero) $ await ! tt $ pick ! (λ γ. split ! $
            move ! (2 ∷ 16 ∷ 0 ∷ 15 ∷ 3 ∷ []) $ join ! $ use3 𝓛 (raw ((Lent P Ps 𝓛 (lent-clauses P Ps S 𝓤)).pre (to ν l₂ γ)) ⊛ ‵ own) (asked ν l₂ γ) $ split ! $ move ! (0 ∷ 2 ∷ []) $
            -- [what the call asks; the further parameters; what they own; the lender's part; room for the copy; …; the reference; …; room for the answer; …; the state's end; _1; …; room for _0; …]
            calls_at ! fm (Lent P Ps 𝓛 (lent-clauses P Ps S 𝓤)) known (to ν l₂ γ) (and_then ! (load ! (from_at ! (stands l₀ l₁ ls l₂ l₃ l₄ l₅ 2) (stop !)) (look ! 6 refl))
            (opds-all (of-core n) ! (of-lent n) (ν ∷ [], κs) Ps ls xs (places l₀ l₁ ls l₂ l₃ l₄ l₅) (rest l₂ l₃ l₄ l₅) (λ j. suc (suc j)) (λ j. refl))) (λ v.
            use1 𝓛 (later (some (λ (r : N.row.Denot). ((‵ (flft (ν ∷ []) full_share) ⊛ raw tokens) ⊛ ‵ (N.row.own_val r (v ∷ []))) ⊛ raw (Ensured ν l₂ γ r)))) (id⊢ 𝓤 _) $ await ! tt $ pick ! (λ r. split ! $ move ! (1 ∷ []) $
            use1 𝓛 (some (λ (ws : Left ν l₂ γ). ‵ (lasts (lent-ended P Ps) (ν ∷ [], κs) (x ν l₂ γ, passed_on ν l₂ γ) ws) ⊛ raw (fact 𝓤 (Told ν l₂ γ r ws)))) (id⊢ 𝓤 _) $ pick ! (λ ws.
            split ! $ move ! (1 ∷ []) $ heard ! (Told ν l₂ γ r ws) (λ e. fsplit ! $ fsplit ! $ move ! (1 ∷ []) $ drop ! $ move ! (2 ∷ []) $ split ! $ split ! $ move ! (2 ∷ []) $
            -- [what the answer owns; ν's token; their tokens; the state left; …; the further parameters; what they own; the lender's part; room for the copy; …; the reference; …; room for the answer; …]
            peeks ! N.row (Is N.row) (shows 𝓛 N.row) r (v ∷ []) (λ is. land ! (from_at ! (stands l₀ l₁ ls l₂ l₃ l₄ l₅ 1) (stop !)) (init ! 12 refl (N.typed 𝓛 r v is)) $
            rewrite ! 12 (λ (u : Val). ‵ (fat full_share N.ty l₃ zero u)) (ap only (N.tells r (v ∷ []) is)) refl $
            -- the lifetime is ended, and the state comes back
            drop ! $ lft_end ! tt $ move ! (0 ∷ 6 ∷ 2 ∷ []) $ use3 𝓛 (later (‵ ((mem B.row).own_at ws.0 l₂ zero))) (ref_back 𝓛 B.row (ν ∷ []) γ ws.0 l₂ zero) $ await ! tt $
            use1 𝓛 (given (Is B.row ws.0 (B.val ws.0 ∷ [])) (‵ (fat full_share B.ty l₂ zero (B.val ws.0)))) (comes_back B 𝓛 ws.0 l₂) $ learn ! (λ is'.
            -- [the state; their tokens; …; the further parameters; what they own; room for the copy; …; the reference; …; the answer; …; the state's end; _1; …; room for _0; …]
            assigns ! (of_opd ! (load ! (from_at ! (stands l₀ l₁ ls l₂ l₃ l₄ l₅ 0) (stop !)) (look ! 0 refl))) (from_at ! (stands l₀ l₁ ls l₂ l₃ l₄ l₅ 3) (stop !)) (init ! 5 refl (B.typed 𝓛 ws.0 _ is')) $
            assigns ! (agg ! (and_then ! (load ! (from_at ! (stands l₀ l₁ ls l₂ l₃ l₄ l₅ 3) (stop !)) (look ! 5 refl)) (and_then ! (load ! (from_at ! (stands l₀ l₁ ls l₂ l₃ l₄ l₅ 1) (stop !)) (look ! 9 refl)) (no_more !)))) (from ! (stop !))
            (init ! 14 refl (P.typed 𝓛 (P.both ws.0 r) _ (P.whole ws.0 r is' (subst (Is N.row r) (N.tells r (v ∷ []) is) is)))) $
            returns ! (look ! 14 refl) $ forget ! 0 refl $ forget ! 5 refl $ forget ! 7 refl $ forget ! 9 refl $ forget ! 12 refl $ forget ! 14 refl $
            move ! (14 ∷ 15 ∷ []) $ free1 ! $ move ! (12 ∷ 13 ∷ []) $ free1 ! $ move ! (3 ∷ []) $ free_all (of-core n) ! Ps ls xs $ move ! (0 ∷ 10 ∷ []) $ free1 ! $
            move ! (7 ∷ 8 ∷ []) $ free1 ! $ move ! (5 ∷ 6 ∷ []) $ free1 ! $ move ! (3 ∷ 4 ∷ []) $ free1 ! $ free0 ! $ keep ! (0 ∷ 2 ∷ []) $
            by ! (exits ws.0 r (P.whole ws.0 r is' (subst (Is N.row r) (N.tells r (v ∷ []) is) is)) (kept ν l₂ γ r ws e)))))))))))))))))

    held-meets : (lent : Callee) (𝓣 : Tables 𝓤 H) → Triple 𝓤 (𝓣.C lent) (Lent P Ps 𝓛 (lent-clauses P Ps S 𝓤)) → Triple 𝓤 (WpFn 𝓤 H 𝓣.C 𝓣.Λ (held-function lent)) (Core P Ps 𝓛 (core-clauses P Ps S 𝓤))
    held-meets lent 𝓣 known =
        walk_Meets 𝓛 (core-ended P Ps) stayed (Goes-none 𝓛 n (λ _. B.row) yes (λ κs y f. B.silent y f), goes-all (of-core n) 𝓛 Ps) (core-clauses P Ps S 𝓤)
        (WpFn 𝓤 H 𝓣.C 𝓣.Λ (held-function lent)) (WpFn-mono 𝓤 H 𝓛.laws 𝓣 (held-function lent))
        (walked 𝓛 (core-ended P Ps) stayed (core-clauses P Ps S 𝓤) (WpFn 𝓤 H 𝓣.C 𝓣.Λ (held-function lent))
        (λ κs. ((λ y. B.val y ∷ []), spelling (of-core n) κs Ps)) (λ κs. (B.tells, telling (of-core n) κs Ps))
        (λ κs qs bounds a _ are. via 𝓤 _ (fst∗ 𝓤 _ (emp 𝓤))
        (walk κs qs a.0 are.0 a.1 (good (of-core n) κs Ps a.1 are.1) lent 𝓣.C 𝓣.Λ (fm_of 𝓤 H 𝓛.laws 𝓣) known)))

  -- the same of the routines: the lent call's theorem gives the held one's, whatever that ensures of what is promised
  pub held-call : (S : Promise P Ps) {M : Type 1} {𝓤 : Ura M} (𝓛 : Logic 𝓤) (𝓜 : Model 𝓤 𝓛.H) (𝓡 : Running 𝓤 𝓛.H 𝓜) (γ : Env) (k lent : Callee) (r : Routine)
      → Closed 𝓤 𝓛.H (tables 𝓤 𝓛.H 𝓜 𝓡 γ).C (tables 𝓤 𝓛.H 𝓜 𝓡 γ).Λ k (held-function lent) → γ lent ≡ r → Triple 𝓤 (𝓡.run r) (Lent P Ps 𝓛 (lent-clauses P Ps S 𝓤))
      → (E : CoreEnsures P Ps 𝓤) → ((κs : Lfts n) (a : Args (core-ended P Ps).signature κs) (res : P.row.Denot) (ws : Lasts (core-ended P Ps) κs a)
      → ent 𝓤 (fact 𝓤 (S a.0 (values (of-core n) κs Ps a.1) (P.answer res) (P.state res))) (E κs a tt res (at_exit (core-ended P Ps) κs a ws)))
      → Triple 𝓤 (𝓡.run (γ k)) (Core P Ps 𝓛 (core-ensuring P Ps 𝓤 E))
  unfolding tables_of
  held-call S {𝓤 = 𝓤} 𝓛 𝓜 𝓡 γ k lent r unfolds calls met E ensures =
      let 𝓣 : Tables 𝓤 𝓛.H = tables_of 𝓤 𝓛.H 𝓜 (tables 𝓤 𝓛.H 𝓜 𝓡 γ) in
      entered 𝓤 𝓛.H (Core P Ps 𝓛 (core-ensuring P Ps 𝓤 E)) (tables 𝓤 𝓛.H 𝓜 𝓡 γ).C (tables 𝓤 𝓛.H 𝓜 𝓡 γ).Λ k (held-function lent) unfolds
      (weaken 𝓛 (core-ended P Ps) (core-clauses P Ps S 𝓤) E (λ κs a g res ws. ensures κs a res ws) (WpFn 𝓤 𝓛.H 𝓣.C 𝓣.Λ (held-function lent)) (WpFn-mono 𝓤 𝓛.H 𝓛.laws 𝓣 (held-function lent))
      (held-meets S 𝓛 lent 𝓣 (cited 𝓤 𝓛.H (Lent P Ps 𝓛 (lent-clauses P Ps S 𝓤)) 𝓜 𝓡 γ lent r calls met)))
