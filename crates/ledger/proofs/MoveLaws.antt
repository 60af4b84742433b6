-- Figures that are filed to or withdrawn from, and the tests of 8 and 9.
-- Assumes nothing.
use mathlib.Core.Path.{◌≡◌, refl, sym, subst}
use mathlib.Core.Logic.{◌≢◌, ◌⊎◌, inl, inr}
use mathlib.Core.Bool.{Bool, true, false, cond, not, ◌&&◌}
use mathlib.Core.List.{List, [], ◌∷◌}
use Prim.Native.Nat.{ℕ, ◌+◌, ◌-◌, ◌≤◌}
use native.Mathlib.Omega.{arith}
use lib.Dec.{ltb, eqb}
use lib.ListN.{set}
use borrow.Author.Tests.{eqb-true, eqb-false, eq-eqb, ne_eqb}
use Rattle.book.specs.declared.Book.{Book}
use Rattle.calls.specs.Limits.{figure_limit}
use Rattle.calls.specs.Answers.{Said, refused_by, accepted, on_answer, first_of, Acceptance}
use Rattle.book.specs.Book.{with_figures, figure_slot, figure_of}
use Rattle.calls.specs.Indicators.{some}
use Rattle.calls.specs.Call.{Entry}
use Rattle.judging.specs.Figures.{moved_by}
use Rattle.calls.proofs.Flags.{and_left}
use Rattle.ledger.specs.Table.{passes_limit, falls_below}
use Rattle.ledger.specs.Calls.{entered, enter_all, outcome_of}
use Rattle.ledger.specs.Steps.{entering}
use Rattle.ledger.proofs.AdmissionLaws.{refused_call, accepted_call}

-- the two tests at one figure
abbrev pub passes : ℕ → ℕ → ℕ → Bool
passes sign value old = eqb sign 0 && ltb figure_limit (old + value)

abbrev pub falls : ℕ → ℕ → ℕ → Bool
falls sign value old = eqb sign 1 && ltb old value

-- a withdrawal passes no limit
pub no-limit : (sign value old more held : ℕ) → falls sign value old ≡ true → passes sign more held ≡ false
no-limit sign value old more held e =
    rw (ne_eqb sign 0 (λ z. omega (arith, eqb-true sign 1 (and_left (eqb sign 1) (ltb old value) e), z))) refl

-- a figure that moves passes neither bound, and moves to what is entered
pub record Moves (sign value old new : ℕ) : Type 0 where
  pub below_limit : passes sign value old ≡ false
  pub above_zero : falls sign value old ≡ false
  pub reaches : cond (eqb sign 0) (old + value) (old - value) ≡ new

module _ (sign value old : ℕ) where
  -- what stops a move: the limit, by 8, or 0, by 9
  abbrev pub Stops : ℕ → Type 0
  Stops number = ((number ≡ 8) × (passes sign value old ≡ true)) ⊎ ((number ≡ 9) × (falls sign value old ≡ true))

  -- what is said of a move, by the tests
  abbrev pub As : Said ℕ → Type 0
  As (accepted new) = Moves sign value old new
  As (refused_by number) = Stops number

  module _ (valid : sign ≤ 1) where
    withdraws : eqb sign 0 ≡ false → eqb sign 1 ≡ true
    withdraws e = eq-eqb sign 1 (omega (arith, eqb-false sign 0 e))

    files-only : eqb sign 0 ≡ true → eqb sign 1 ≡ false
    files-only e = ne_eqb sign 1 (λ o. omega (arith, eqb-true sign 0 e, o))

    -- of a move, by what is said of it
    pub moved_as : (answer : Said ℕ) → answer ≡ moved_by sign value old → As answer
    unfolding moved_by first_of
    moved_as answer says =
        subst As (sym says) (go (eqb sign 0) (ltb figure_limit (old + value)) (ltb old value) refl refl refl)
      where
        go : (files above below : Bool) → eqb sign 0 ≡ files → ltb figure_limit (old + value) ≡ above → ltb old value ≡ below
            → As (first_of ((8, files && above) ∷ (9, not files && below) ∷ []) (cond files (old + value) (old - value)))
        go true true below f a b = inl (refl, rw (f, a) refl)
        go true false below f a b = record { below_limit = rw (f, a) refl; above_zero = rw (files-only f) refl; reaches = rw f refl }
        go false above true f a b = inr (refl, rw (withdraws f, b) refl)
        go false above false f a b = record { below_limit = rw f refl; above_zero = rw (withdraws f, b) refl; reaches = rw f refl }

-- a test over the entries of a list
pub some-none : (test : Entry → Bool) → some test [] ≡ false
unfolding some
some-none test = refl

module _ (test : Entry → Bool) (entry : Entry) (rest : List Entry) where
  pub some-here : test entry ≡ true → some test (entry ∷ rest) ≡ true
  unfolding some
  some-here e = rw e refl

  pub some-rest : {t : Bool} → test entry ≡ false → some test rest ≡ t → some test (entry ∷ rest) ≡ t
  unfolding some
  some-rest e later = rw e later

-- all of a list's entries have one sign
abbrev pub Signed : List Entry → ℕ → Type 0
Signed [] sign = Unit {0}
Signed (entry ∷ rest) sign = (entry.sign ≡ sign) × Signed rest sign

-- nothing that is withdrawn passes a limit
pub none_passes : (total : ℕ → ℕ → ℕ → ℕ) (list : List Entry) (sign value old : ℕ) → falls sign value old ≡ true → Signed list sign
    → some (passes_limit total) list ≡ false
unfolding some passes_limit
none_passes total [] sign value old below signs = refl
none_passes total (entry ∷ rest) sign value old below signs =
    rw (signs.0, no-limit sign value old entry.value (total entry.operator entry.year entry.figure) below)
    (none_passes total rest sign value old below signs.1)

-- what entering gives
module _ (b : Book) (list : List Entry) (value : Acceptance) where
  pub refused-above : some (passes_limit (figure_of b)) list ≡ true → entering b list value ≡ refused_call b 8
  unfolding entering first_of outcome_of on_answer
  refused-above e = rw e refl

  pub refused-below : some (passes_limit (figure_of b)) list ≡ false → some (falls_below (figure_of b)) list ≡ true → entering b list value ≡ refused_call b 9
  unfolding entering first_of outcome_of on_answer
  refused-below p f = rw (p, f) refl

  pub entered_all : some (passes_limit (figure_of b)) list ≡ false → some (falls_below (figure_of b)) list ≡ false
      → entering b list value ≡ accepted_call (enter_all b list) value
  unfolding entering first_of outcome_of on_answer
  entered_all p f = rw (p, f) refl

  -- what is refused leaves the book, and what is accepted is entered
  pub refused-entering : (number : ℕ) → refused_by number ≡ (entering b list value).said → entering b list value ≡ refused_call b number
  unfolding entering outcome_of on_answer
  refused-entering number e = rw (← e) refl

-- one figure moved
module _ (b : Book) where
  abbrev pub placed : Entry → ℕ
  placed entry = figure_slot entry.operator entry.year entry.figure

  -- what stands at an entry's figure
  abbrev pub figure_at : Entry → ℕ
  figure_at entry = figure_of b entry.operator entry.year entry.figure

  abbrev pub MovesAt : Entry → ℕ → Type 0
  MovesAt entry new = Moves entry.sign entry.value (figure_at entry) new

  pub moved-one : (entry : Entry) (new : ℕ) → MovesAt entry new → enter_all b (entry ∷ []) ≡ with_figures b (set b.figures (placed entry) new)
  unfolding enter_all entered figure_of
  moved-one entry new moves = rw moves.reaches refl

  -- one entry, and the first of several, by what became of its figure
  module _ (entry : Entry) (value : Acceptance) where
    one-above : passes entry.sign entry.value (figure_at entry) ≡ true → entering b (entry ∷ []) value ≡ refused_call b 8
    unfolding passes_limit
    one-above e = refused-above b (entry ∷ []) value (some-here _ _ _ e)

    one_below : falls entry.sign entry.value (figure_at entry) ≡ true → entering b (entry ∷ []) value ≡ refused_call b 9
    unfolding passes_limit falls_below
    one_below e =
        refused-below b (entry ∷ []) value
        (some-rest _ _ _ (no-limit entry.sign entry.value (figure_at entry) entry.value (figure_at entry) e) (some-none _))
        (some-here _ _ _ e)

    pub one-stopped : (number : ℕ) → Stops entry.sign entry.value (figure_at entry) number → entering b (entry ∷ []) value ≡ refused_call b number
    one-stopped number (inl stop) = rw stop.0 (one-above stop.1)
    one-stopped number (inr stop) = rw stop.0 (one_below stop.1)

    pub one-moved : (new : ℕ) → MovesAt entry new → entering b (entry ∷ []) value ≡ accepted_call (with_figures b (set b.figures (placed entry) new)) value
    unfolding passes_limit falls_below
    one-moved new moves =
        rw (← moved-one entry new moves)
        (entered_all b (entry ∷ []) value (some-rest _ _ _ moves.below_limit (some-none _)) (some-rest _ _ _ moves.above_zero (some-none _)))

    module _ (rest : List Entry) where
      pub first_above : passes entry.sign entry.value (figure_at entry) ≡ true → entering b (entry ∷ rest) value ≡ refused_call b 8
      unfolding passes_limit
      first_above e = refused-above b (entry ∷ rest) value (some-here _ _ _ e)

      pub first_below : Signed rest entry.sign → falls entry.sign entry.value (figure_at entry) ≡ true → entering b (entry ∷ rest) value ≡ refused_call b 9
      unfolding passes_limit falls_below
      first_below signs e =
          refused-below b (entry ∷ rest) value
          (some-rest _ _ _ (no-limit entry.sign entry.value (figure_at entry) entry.value (figure_at entry) e)
          (none_passes (figure_of b) rest entry.sign entry.value (figure_at entry) e signs))
          (some-here _ _ _ e)

      pub first-stopped : (number : ℕ) → Signed rest entry.sign → Stops entry.sign entry.value (figure_at entry) number
          → entering b (entry ∷ rest) value ≡ refused_call b number
      first-stopped number signs (inl stop) = rw stop.0 (first_above stop.1)
      first-stopped number signs (inr stop) = rw stop.0 (first_below signs stop.1)

-- figures of one operator and year stand apart
pub slots_apart : (operator year figure other : ℕ) → figure ≢ other → figure_slot operator year figure ≢ figure_slot operator year other
unfolding figure_slot
slots_apart operator year figure other differ same = differ (omega (arith, same))
