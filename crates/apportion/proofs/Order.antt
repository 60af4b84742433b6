-- The order in which places are served is total, and `foremost` is first in it.
-- Assumes nothing.
use mathlib.Core.Path.{◌≡◌, refl, sym, ◌∙◌}
use mathlib.Core.Logic.{◌⊎◌, inl, inr, ◌≢◌, ⊎_elim}
use mathlib.Core.Bool.{Bool, true, false, cond, false≢true, true≢false}
use mathlib.Core.List.{List}
use Prim.Native.Nat.{ℕ, zero, suc, ◌+◌, ◌≤◌, ◌<◌}
use native.Mathlib.Numerals.{add-one}
use native.Mathlib.Omega.{arith}
use native.Mathlib.Decide.{ℕ_discrete, dec_lt}
use lib.Dec.{ltb}
use lib.ListN.{get_or}
use borrow.Author.Tests.{ltb-true, ltb-false, lt-ltb, le-ltb, eq-eqb, ne_eqb}
use Rattle.apportion.specs.Share.{larger_first, precedes, earlier, foremost}

-- the larger of two numbers comes first, at a tie what is asked next decides
larger : (a b : ℕ) (next : Bool) → b < a → larger_first a b next ≡ true
unfolding larger_first
larger a b next more = rw (lt-ltb b a more) refl

smaller : (a b : ℕ) (next : Bool) → a < b → larger_first a b next ≡ false
unfolding larger_first
smaller a b next less = rw (le-ltb b a (omega arith), ne_eqb a b (λ e. omega arith)) refl

pub tied : (a b : ℕ) (next : Bool) → a ≡ b → larger_first a b next ≡ next
unfolding larger_first
tied a b next e = rw (le-ltb b a (omega arith), eq-eqb a b e) refl

-- the three ways in which two numbers stand to each other
abbrev Compared : ℕ → ℕ → Type 0
Compared a b = (b < a) ⊎ ((a ≡ b) ⊎ (a < b))

compared : (a b : ℕ) → Compared a b
compared a b = go (dec_lt b a) (dec_lt a b)
  where
    go : Dec (b < a) → Dec (a < b) → Compared a b
    go (yes more) either = inl more
    go (no more) (yes less) = inr (inr less)
    go (no more) (no less) = inr (inl (omega arith))

-- of two that differ the next is never asked
pub apart : (a b : ℕ) (next : Bool) → (a ≡ b → ⊥) → larger_first a b next ≡ ltb b a
apart a b next differ = go (compared a b)
  where
    go : Compared a b → larger_first a b next ≡ ltb b a
    go (inl more) = larger a b next more ∙ sym (lt-ltb b a more)
    go (inr (inl same)) = absurd (differ same)
    go (inr (inr less)) = smaller a b next less ∙ sym (le-ltb b a (omega arith))

-- what comes first is larger, or at a tie first by what is asked next
first-if : (a b : ℕ) (next : Bool) → larger_first a b next ≡ true → (b < a) ⊎ ((a ≡ b) × (next ≡ true))
first-if a b next e = go (compared a b)
  where
    go : Compared a b → (b < a) ⊎ ((a ≡ b) × (next ≡ true))
    go (inl more) = inl more
    go (inr (inl same)) = inr (same, sym (tied a b next same) ∙ e)
    go (inr (inr less)) = absurd (true≢false (sym e ∙ smaller a b next less))

-- so it is transitive if what is asked next is,
larger-trans : (a b c : ℕ) (s t u : Bool) → larger_first a b s ≡ true → larger_first b c t ≡ true → (s ≡ true → t ≡ true → u ≡ true)
    → larger_first a c u ≡ true
larger-trans a b c s t u first second next = go (first-if a b s first) (first-if b c t second)
  where
    go : (b < a) ⊎ ((a ≡ b) × (s ≡ true)) → (c < b) ⊎ ((b ≡ c) × (t ≡ true)) → larger_first a c u ≡ true
    go (inl x) (inl y) = larger a c u (omega arith)
    go (inl x) (inr y) = larger a c u (omega arith)
    go (inr x) (inl y) = larger a c u (omega arith)
    go (inr x) (inr y) = tied a c u (x.0 ∙ y.0) ∙ next x.1 y.1

-- and tells two apart if what is asked next does
larger-other : (a b : ℕ) (s u : Bool) → larger_first a b s ≡ false → (s ≡ false → u ≡ true) → larger_first b a u ≡ true
larger-other a b s u e next = go (compared a b)
  where
    go : Compared a b → larger_first b a u ≡ true
    go (inl more) = absurd (false≢true (sym e ∙ larger a b s more))
    go (inr (inl same)) = tied b a u (sym same) ∙ next (sym (tied a b s same) ∙ e)
    go (inr (inr less)) = larger b a u less

-- place i with remainder r and size x is served before place j with remainder q and size y. Other proofs know of the order
-- `precedes-trans`, `precedes-other` and `no_less` alone.
abbrev pub Precedes : ℕ → ℕ → ℕ → ℕ → ℕ → ℕ → Type 0
Precedes r x i q y j = precedes r x i q y j ≡ true

pub precedes-trans : (r x i q y j p z k : ℕ) → Precedes r x i q y j → Precedes q y j p z k → Precedes r x i p z k
unfolding precedes
precedes-trans r x i q y j p z k first second =
    larger-trans r q p _ _ _ first second
    (λ by_size then-size. larger-trans x y z _ _ _ by_size then-size (λ by_place then-place. lt-ltb i k (omega (arith, ltb-true i j by_place, ltb-true j k then-place))))

-- of two places one is served before the other
pub precedes-other : (r x i q y j : ℕ) → i ≢ j → precedes r x i q y j ≡ false → Precedes q y j r x i
unfolding precedes
precedes-other r x i q y j ne e =
    larger-other r q _ _ e (λ by_size. larger-other x y _ _ by_size (λ by_place. lt-ltb j i (omega (arith, ltb-false i j by_place, ne))))

-- nobody served later has a larger remainder
pub no_less : (r x i q y j : ℕ) → Precedes r x i q y j → q ≤ r
unfolding precedes
no_less r x i q y j e = ⊎_elim (λ more. omega arith) (λ same. omega (arith, same.0)) (first-if r q _ e)

-- `foremost` is one of the first n places
foremost-le : (sizes remaining : List ℕ) (n : ℕ) → foremost sizes remaining n ≤ n
unfolding foremost earlier
foremost-le sizes remaining zero = omega arith
foremost-le sizes remaining (suc n) = go (foremost sizes remaining n) (foremost-le sizes remaining n) (precedes _ _ _ _ _ _)
  where
    go : (best : ℕ) → best ≤ n → (t : Bool) → cond t n best ≤ suc n
    go best h true = omega arith
    go best h false = omega arith

pub foremost-lt : (sizes remaining : List ℕ) (n : ℕ) → 0 < n → foremost sizes remaining n < n
unfolding foremost earlier
foremost-lt sizes remaining zero pos = pos
foremost-lt sizes remaining (suc n) pos = go (foremost sizes remaining n) (foremost-le sizes remaining n) (precedes _ _ _ _ _ _)
  where
    go : (best : ℕ) → best ≤ n → (t : Bool) → cond t n best < suc n
    go best h true = omega arith
    go best h false = omega arith

-- and every other of them is served after it
First : List ℕ → List ℕ → ℕ → ℕ → Type 0
First sizes remaining f j = j ≢ f → Precedes (get_or remaining f 0) (get_or sizes f 0) f (get_or remaining j 0) (get_or sizes j 0) j

first_step : (sizes remaining : List ℕ) (n f j : ℕ) (t : Bool) → precedes (get_or remaining n 0) (get_or sizes n 0) n (get_or remaining f 0) (get_or sizes f 0) f ≡ t
    → (j < n → First sizes remaining f j) → j < suc n → First sizes remaining (cond t n f) j
unfolding First
first_step sizes remaining n f j true e prior lt ne = go (ℕ_discrete j f)
  where
    go : Dec (j ≡ f) → Precedes (get_or remaining n 0) (get_or sizes n 0) n (get_or remaining j 0) (get_or sizes j 0) j
    go (yes same) = rw same e
    go (no other) = precedes-trans _ _ _ _ _ _ _ _ _ e (prior (omega arith) other)
first_step sizes remaining n f j false e prior lt ne = go (ℕ_discrete j n)
  where
    go : Dec (j ≡ n) → Precedes (get_or remaining f 0) (get_or sizes f 0) f (get_or remaining j 0) (get_or sizes j 0) j
    go (yes same) = rw same (precedes-other _ _ _ _ _ _ (λ p. ne (omega arith)) e)
    go (no other) = prior (omega arith) ne

pub foremost-first : (sizes remaining : List ℕ) (n j : ℕ) → j < n → j ≢ foremost sizes remaining n
    → Precedes (get_or remaining (foremost sizes remaining n) 0) (get_or sizes (foremost sizes remaining n) 0) (foremost sizes remaining n) (get_or remaining j 0) (get_or sizes j 0) j
unfolding foremost earlier First
foremost-first sizes remaining zero j lt ne = absurd (omega arith)
foremost-first sizes remaining (suc n) j lt ne = first_step sizes remaining n (foremost sizes remaining n) j _ refl (foremost-first sizes remaining n j) lt ne

-- what a search in the order of the places keeps
pub foremost-one : (sizes remaining : List ℕ) → foremost sizes remaining 1 ≡ 0
unfolding foremost earlier
foremost-one sizes remaining = go (precedes _ _ _ _ _ _)
  where
    go : (t : Bool) → ◌≡◌ {A = ℕ} (cond t 0 0) 0
    go true = refl
    go false = refl

pub foremost-more : (sizes remaining : List ℕ) (best i : ℕ) (test : Bool) → best ≡ foremost sizes remaining i
    → precedes (get_or remaining i 0) (get_or sizes i 0) i (get_or remaining best 0) (get_or sizes best 0) best ≡ test → foremost sizes remaining (i + 1) ≡ cond test i best
unfolding foremost earlier
foremost-more sizes remaining best i test e tested = rw (add-one, ← e, tested) refl
