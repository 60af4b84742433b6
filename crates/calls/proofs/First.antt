-- The first line of a table that applies has the first number in the order that does (specs/Laws.antt).
-- Assumes nothing.
use Prim.Native.Nat.{ℕ, ◌-◌, ◌<◌, ◌≤◌}
use mathlib.Core.Path.{◌≡◌, refl, sym, ap, ◌∙◌}
use mathlib.Core.Logic.{◌⊎◌, inl, inr}
use mathlib.Core.Bool.{Bool, true, false, false≢true}
use mathlib.Core.List.{List, [], ◌∷◌, ◌++◌}
use native.Mathlib.Omega.{arith}
use native.Mathlib.Decide.{dec_lt, ℕ_discrete}
use lib.Dec.{eqb, ltb}
use lib.ListN.{get_or}
use borrow.Author.Tests.{eq-eqb, ne_eqb, ltb-true}
use Rattle.calls.specs.declared.Refusal.{Refusal}
use Rattle.calls.specs.declared.Refusal.TheVariants.{Truncated, UnknownTag, WrongLength, UnknownOperator, OutOfRange, AlreadyJoined, NotJoined, AboveLimit, BelowZero, NoneJoined, NetworkMissing, AllMarked, BufferTooShort, StartsAfterEnd, OutsidePeriod}
use Rattle.calls.specs.Answers.{Said, refused_by, accepted, on_answer, is_refused, first_of, number_of}
use Rattle.calls.specs.Laws.{order, rank, place_from, Ranked, applies, IsFirst, stand_from, First}
use Rattle.calls.proofs.Flags.{and_left, and_right, and-false-right}

-- the number by which something is refused
abbrev number_in : {A : Type 0} → Said A → ℕ
number_in (refused_by number) = number
number_in (accepted value) = 0

abbrev refuses : {A : Type 0} → Said A → Bool
refuses (refused_by number) = true
refuses (accepted value) = false

-- every refusal's number stands at its rank
pub ranked : Ranked
unfolding rank place_from
ranked = record { placed = at-rank; as_asked = refl }
  where
    at-rank : (refusal : Refusal) → get_or order (rank (number_of refusal) - 1) 0 ≡ number_of refusal
    at-rank Truncated = refl
    at-rank UnknownTag = refl
    at-rank WrongLength = refl
    at-rank UnknownOperator = refl
    at-rank OutOfRange = refl
    at-rank AlreadyJoined = refl
    at-rank NotJoined = refl
    at-rank AboveLimit = refl
    at-rank BelowZero = refl
    at-rank NoneJoined = refl
    at-rank NetworkMissing = refl
    at-rank AllMarked = refl
    at-rank BufferTooShort = refl
    at-rank StartsAfterEnd = refl
    at-rank OutsidePeriod = refl

-- a line that does not apply may be left out, and so may one of another number; one that does is found at its number
skipped : (line : ℕ) (rest : List (ℕ × Bool)) (number : ℕ) → applies ((line, false) ∷ rest) number ≡ applies rest number
unfolding applies
skipped line rest number = rw (and-false-right (eqb line number)) refl

passed-by : (line : ℕ) (holds : Bool) (rest : List (ℕ × Bool)) (number : ℕ) → (line ≡ number → ⊥) → applies ((line, holds) ∷ rest) number ≡ applies rest number
unfolding applies
passed-by line holds rest number other = rw (ne_eqb line number other) refl

found : (line : ℕ) (rest : List (ℕ × Bool)) (number : ℕ) → line ≡ number → applies ((line, true) ∷ rest) number ≡ true
unfolding applies
found line rest number e = rw (eq-eqb line number e) refl

none-among : (number : ℕ) → applies [] number ≡ false
unfolding applies
none-among number = refl

-- the first line stands above the bound, and the others from its own rank on
module _ (bound line : ℕ) (holds : Bool) (rest : List (ℕ × Bool)) (stand : stand_from bound ((line, holds) ∷ rest) ≡ true) where
  above : bound < rank line
  unfolding stand_from
  above = ltb-true bound (rank line) (and_left (ltb bound (rank line)) _ stand)

  later : stand_from (rank line) rest ≡ true
  unfolding stand_from
  later = and_right (ltb bound (rank line)) _ stand

-- where lines stand in the order, no number of the bound's rank or of a lower one applies
none-upto : (bound : ℕ) (lines : List (ℕ × Bool)) → stand_from bound lines ≡ true → (number : ℕ) → rank number ≤ bound → applies lines number ≡ false
none-upto bound [] stand number le = none-among number
none-upto bound ((line, holds) ∷ rest) stand number le =
    let higher : bound < rank line = above bound line holds rest stand in
    passed-by line holds rest number (λ e. omega (arith, ap rank e, higher, le))
    ∙ none-upto (rank line) rest (later bound line holds rest stand) number (omega (arith, higher, le))

module _ (bound line : ℕ) (rest : List (ℕ × Bool)) (stand : stand_from bound ((line, true) ∷ rest) ≡ true) where
  -- before a line that applies none does
  first-line : (number : ℕ) → line ≡ number → IsFirst ((line, true) ∷ rest) number
  first-line number e = (
    found line rest number e,
    (λ earlier lt.
        passed-by line true rest earlier (λ same. omega (arith, ap rank same, ap rank e, lt))
        ∙ none-upto (rank line) rest (later bound line true rest stand) earlier (omega (arith, ap rank e, lt))),
  )

  -- and the first number is its own: one behind it has a higher rank
  only-line : (number : ℕ) → IsFirst ((line, true) ∷ rest) number → line ≡ number
  only-line number first = go (ℕ_discrete line number) (dec_lt (rank line) (rank number))
    where
      go : Dec (line ≡ number) → Dec (rank line < rank number) → line ≡ number
      go (yes e) behind = e
      go (no other) (yes lt) = absurd (false≢true (sym (first.1 line lt) ∙ found line rest line refl))
      go (no other) (no le) =
          absurd (false≢true (sym (passed-by line true rest number other ∙ none-upto (rank line) rest (later bound line true rest stand) number (omega (arith, le))) ∙ first.0))

module _ {A : Type 0} (value : A) where
  -- the number that is given is the first to apply
  given-first : (bound : ℕ) (lines : List (ℕ × Bool)) → stand_from bound lines ≡ true → (number : ℕ) → first_of lines value ≡ refused_by number → IsFirst lines number
  unfolding first_of
  given-first bound [] stand number e = absurd (false≢true (ap refuses e))
  given-first bound ((line, true) ∷ rest) stand number e = first-line bound line rest stand number (ap number_in e)
  given-first bound ((line, false) ∷ rest) stand number e =
      let behind = given-first (rank line) rest (later bound line false rest stand) number e in
      (skipped line rest number ∙ behind.0, (λ earlier lt. skipped line rest earlier ∙ behind.1 earlier lt))

  -- the first number to apply is given
  first-given : (bound : ℕ) (lines : List (ℕ × Bool)) → stand_from bound lines ≡ true → (number : ℕ) → IsFirst lines number → first_of lines value ≡ refused_by number
  unfolding first_of
  first-given bound [] stand number first = absurd (false≢true (sym (none-among number) ∙ first.0))
  first-given bound ((line, true) ∷ rest) stand number first = ap refused_by (only-line bound line rest stand number first)
  first-given bound ((line, false) ∷ rest) stand number first =
      first-given (rank line) rest (later bound line false rest stand) number
      (sym (skipped line rest number) ∙ first.0, (λ earlier lt. sym (skipped line rest earlier) ∙ first.1 earlier lt))

  -- where no number applies, the value is given, and only there
  none-given : (lines : List (ℕ × Bool)) → ((number : ℕ) → applies lines number ≡ false) → first_of lines value ≡ accepted value
  unfolding first_of
  none-given [] none = refl
  none-given ((line, true) ∷ rest) none = absurd (false≢true (sym (none line) ∙ found line rest line refl))
  none-given ((line, false) ∷ rest) none = none-given rest (λ number. sym (skipped line rest number) ∙ none number)

  given-none : (lines : List (ℕ × Bool)) → first_of lines value ≡ accepted value → (number : ℕ) → applies lines number ≡ false
  unfolding first_of
  given-none [] e number = none-among number
  given-none ((line, true) ∷ rest) e number = absurd (false≢true (sym (ap refuses e)))
  given-none ((line, false) ∷ rest) e number = skipped line rest number ∙ given-none rest e number

  pub first-in-order : (lines : List (ℕ × Bool)) → stand_from 0 lines ≡ true → First lines value
  first-in-order lines stand =
      record {
        refused = λ number. (given-first 0 lines stand number, first-given 0 lines stand number);
        answered = (given-none lines, none-given lines);
      }

-- a line that does not apply is passed, and one that does is given
module _ {A : Type 0} (line : ℕ) (rest : List (ℕ × Bool)) (value : A) {holds : Bool} where
  pub line-passed : holds ≡ false → first_of ((line, holds) ∷ rest) value ≡ first_of rest value
  unfolding first_of
  line-passed e = rw e refl

  pub line-given : holds ≡ true → first_of ((line, holds) ∷ rest) value ≡ refused_by line
  unfolding first_of
  line-given e = rw e refl

-- a table gives its value and none of its lines applies, or it refuses
abbrev pub NoneApplies : List (ℕ × Bool) → Type 0
NoneApplies [] = Unit {0}
NoneApplies ((line, holds) ∷ rest) = (holds ≡ false) × NoneApplies rest

abbrev pub TableDecided : {A : Type 0} → List (ℕ × Bool) → A → Said A → Type 0
TableDecided {A} lines value said = ((said ≡ accepted value) × NoneApplies lines) ⊎ ((number : ℕ) × (said ≡ refused_by number))

pub table-decided : {A : Type 0} (lines : List (ℕ × Bool)) (value : A) → TableDecided lines value (first_of lines value)
unfolding first_of
table-decided [] value = inl (refl, tt)
table-decided ((line, true) ∷ rest) value = inr (line, refl)
table-decided ((line, false) ∷ rest) value = go (table-decided rest value)
  where
    go : TableDecided rest value (first_of rest value) → TableDecided ((line, false) ∷ rest) value (first_of rest value)
    go (inl (e, none)) = inl (e, (refl, none))
    go (inr refused) = inr refused

-- a table that does not refuse gives its value
pub only-value : {A : Type 0} (lines : List (ℕ × Bool)) (value : A) → is_refused (first_of lines value) ≡ false → first_of lines value ≡ accepted value
unfolding first_of is_refused on_answer
only-value [] value e = refl
only-value ((line, true) ∷ rest) value e = absurd (false≢true (sym e))
only-value ((line, false) ∷ rest) value e = only-value rest value e

-- a table whose first lines refuse by a number, or give any value
module _ {A B : Type 0} (more : List (ℕ × Bool)) (value : A) (other : B) where
  pub first-refuses : (lines : List (ℕ × Bool)) (number : ℕ) → first_of lines other ≡ refused_by number → first_of (lines ++ more) value ≡ refused_by number
  unfolding first_of
  first-refuses [] number e = absurd (false≢true (ap refuses e))
  first-refuses ((line, true) ∷ rest) number e = ap refused_by (ap number_in e)
  first-refuses ((line, false) ∷ rest) number e = first-refuses rest number e

  pub first_passes : (lines : List (ℕ × Bool)) → first_of lines other ≡ accepted other → first_of (lines ++ more) value ≡ first_of more value
  unfolding first_of
  first_passes [] e = refl
  first_passes ((line, true) ∷ rest) e = absurd (false≢true (sym (ap refuses e)))
  first_passes ((line, false) ∷ rest) e = first_passes rest e
