-- The table of answers: a call is accepted or refused, and two tables that agree within the book give the same answer.
-- Assumes nothing.
use Prim.Native.Nat.{ℕ, ◌+◌, ◌≤◌, ◌<◌}
use mathlib.Core.Path.{◌≡◌, refl, ap}
use mathlib.Core.Logic.{◌⊎◌, inl, inr}
use mathlib.Core.Bool.{Bool, true, false, not, ◌&&◌}
use mathlib.Core.List.{List, [], ◌∷◌}
use lib.Dec.{leb, ltb, eqb}
use borrow.Author.Tests.{leb-false, ltb-false, not-false}
use Rattle.calls.specs.declared.Call.{Call}
use Rattle.calls.specs.Limits.{operators, years, figure_count, figure_limit}
use Rattle.calls.specs.Answers.{Said, refused_by, accepted, first_of, Acceptance}
use Rattle.calls.specs.Call.{Entry, facts_of}
use Rattle.calls.specs.Indicators.{Indicator, some}
use Rattle.ledger.specs.Table.{total_at, passes_limit, falls_below, lines_for, answer_to}
use Rattle.calls.proofs.Flags.{and-other}
use Rattle.ledger.proofs.AdmissionLaws.{is_unknown, joins_again, lacks_operator}
use Rattle.calls.proofs.First.{TableDecided, table-decided}
use Rattle.calls.proofs.RangeLaws.{Ranges, ranges}
use Rattle.history.proofs.EntryLaws.{All, Within, all_map, all_both, all-parts, none-some, same_some, entries-within, entries-joined}

-- none of the numbers 2, 4 to 9, 14 and 15 applies
pub record Passed (kind : List Indicator) (joined : ℕ → Bool) (total : ℕ → ℕ → ℕ → ℕ) (call : Call) : Type 0 where
  pub had : (facts_of kind call).known ≡ true
  pub known : is_unknown kind call ≡ false
  pub within_range : Ranges kind call
  pub no_join : joins_again kind joined call ≡ false
  pub present : lacks_operator kind joined call ≡ false
  pub below : some (passes_limit total) (facts_of kind call).entries ≡ false
  pub above : some (falls_below total) (facts_of kind call).entries ≡ false

module _ (kind : List Indicator) (joined : ℕ → Bool) (total : ℕ → ℕ → ℕ → ℕ) (call : Call) where
  abbrev pub Decided : Said Acceptance → Type 0
  Decided answer = ((answer ≡ accepted (facts_of kind call).answer) × Passed kind joined total call) ⊎ ((number : ℕ) × (answer ≡ refused_by number))

  -- a call is accepted or refused
  pub decided : Decided (answer_to kind joined total call)
  unfolding answer_to lines_for
  decided = go (table-decided (lines_for kind joined total call) (facts_of kind call).answer)
    where
      go : {answer : Said Acceptance} → TableDecided (lines_for kind joined total call) (facts_of kind call).answer answer → Decided answer
      go (inr refused) = inr refused
      go (inl (said, (had, (known, (ranged, (ordered, (timely, (no_join, (present, (below, (above, none))))))))))) =
          inl (
            said,
            record {
              had = not-false (facts_of kind call).known had;
              known = known;
              within_range = ranges kind call (not-false (facts_of kind call).within_range ranged) timely;
              no_join = no_join;
              present = present;
              below = below;
              above = above;
            },
          )

-- an entry of a joined operator that neither 8 nor 9 keeps out
pub record Enters (kind : List Indicator) (joined : ℕ → Bool) (total : ℕ → ℕ → ℕ → ℕ) (entry : Entry) : Type 0 where
  pub within : Within kind entry
  pub there : joined entry.operator ≡ true
  pub fits : eqb entry.sign 0 ≡ true → total_at total entry + entry.value ≤ figure_limit
  pub covers : eqb entry.sign 1 ≡ true → entry.value ≤ total_at total entry

-- every entry of an accepted call is one
pub call_enters : (kind : List Indicator) (joined : ℕ → Bool) (total : ℕ → ℕ → ℕ → ℕ) (call : Call) → Passed kind joined total call → All (Enters kind joined total) (facts_of kind call).entries
unfolding passes_limit falls_below
call_enters kind joined total call passed =
    all_map _ (Enters kind joined total)
    (λ entry each.
    record {
      within = each.0.0;
      there = each.0.1;
      fits = λ filed. ltb-false _ _ (and-other (eqb entry.sign 0) _ filed each.1.0);
      covers = λ withdrawn. ltb-false _ _ (and-other (eqb entry.sign 1) _ withdrawn each.1.1);
    })
    (facts_of kind call).entries
    (all_both _ _ (facts_of kind call).entries
    (all_both _ _ (facts_of kind call).entries (entries-within kind call passed.had passed.known passed.within_range) (entries-joined kind joined call passed.present))
    (all_both _ _ (facts_of kind call).entries (none-some _ (facts_of kind call).entries passed.below) (none-some _ (facts_of kind call).entries passed.above)))

-- two tables that agree within the book
module _ (kind : List Indicator) (joined known : ℕ → Bool) (total sum : ℕ → ℕ → ℕ → ℕ)
    (same-joined : (operator : ℕ) → operator < operators → joined operator ≡ known operator)
    (same_total : (operator year figure : ℕ) → operator < operators → year < years → figure < figure_count
    → total operator year figure ≡ sum operator year figure) where
  -- operators that 4 lets pass
  Low : ℕ → Type 0
  Low operator = leb operators operator ≡ false

  both-low : (call : Call) → is_unknown kind call ≡ false → All Low (facts_of kind call).newcomers × All Low (facts_of kind call).members
  unfolding Low
  both-low call e = all-parts _ (facts_of kind call).newcomers (facts_of kind call).members (none-some (leb operators) _ e)

  same-joins : (call : Call) → is_unknown kind call ≡ false → joins_again kind joined call ≡ joins_again kind known call
  unfolding Low
  same-joins call e =
      same_some _ _ (facts_of kind call).newcomers (all_map Low _ (λ operator low. same-joined operator (leb-false operators operator low)) (facts_of kind call).newcomers (both-low call e).0)

  same-lacks : (call : Call) → is_unknown kind call ≡ false → lacks_operator kind joined call ≡ lacks_operator kind known call
  unfolding Low
  same-lacks call e =
      same_some _ _ (facts_of kind call).members (all_map Low _ (λ operator low. ap not (same-joined operator (leb-false operators operator low))) (facts_of kind call).members (both-low call e).1)

  module _ (list : List Entry) (within : All (Within kind) list) where
    total-at : (entry : Entry) → Within kind entry → total_at total entry ≡ total_at sum entry
    total-at entry w = same_total _ _ _ w.operator_lt w.year_lt w.figure_lt

    same-passes : some (passes_limit total) list ≡ some (passes_limit sum) list
    unfolding passes_limit
    same-passes =
        same_some _ _ list
        (all_map (Within kind) _ (λ entry w. ap (λ (n : ℕ). eqb entry.sign 0 && ltb figure_limit (n + entry.value)) (total-at entry w)) list within)

    same-falls : some (falls_below total) list ≡ some (falls_below sum) list
    unfolding falls_below
    same-falls =
        same_some _ _ list (all_map (Within kind) _ (λ entry w. ap (λ (n : ℕ). eqb entry.sign 1 && ltb n entry.value) (total-at entry w)) list within)

  pub same_answer : (call : Call) → answer_to kind joined total call ≡ answer_to kind known sum call
  unfolding answer_to lines_for first_of
  same_answer call = go (facts_of kind call).known (is_unknown kind call) (facts_of kind call).within_range (facts_of kind call).times_outside refl refl refl refl
    where
      rest : (ℕ → Bool) → (ℕ → ℕ → ℕ → ℕ) → List (ℕ × Bool)
      rest held figures =
          (6, joins_again kind held call)
          ∷ (7, lacks_operator kind held call)
          ∷ (8, some (passes_limit figures) (facts_of kind call).entries)
          ∷ (9, some (falls_below figures) (facts_of kind call).entries)
          ∷ []

      lines : Bool → Bool → Bool → Bool → (ℕ → Bool) → (ℕ → ℕ → ℕ → ℕ) → List (ℕ × Bool)
      lines s t u q held figures =
          (2, not s) ∷ (4, t) ∷ (5, not u) ∷ (14, (facts_of kind call).times_reversed) ∷ (15, q) ∷ rest held figures

      go : (s t u q : Bool) → (facts_of kind call).known ≡ s → is_unknown kind call ≡ t → (facts_of kind call).within_range ≡ u → (facts_of kind call).times_outside ≡ q
          → first_of (lines s t u q joined total) (facts_of kind call).answer ≡ first_of (lines s t u q known sum) (facts_of kind call).answer
      go false t u q had lt ranged timed = refl
      go true true u q had lt ranged timed = refl
      go true false false q had lt ranged timed = refl
      go true false true true had lt ranged timed = refl
      go true false true false had lt ranged timed =
          let within = entries-within kind call had lt (ranges kind call ranged timed) in
          rw (
            same-joins call lt,
            same-lacks call lt,
            same-passes (facts_of kind call).entries within,
            same-falls (facts_of kind call).entries within,
          )
          refl
