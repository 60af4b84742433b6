-- The order in which numbers are looked at, what holds of every table of answers, and of what answers say. Proofs: proofs/First.antt,
-- proofs/SaidLaws.antt.
-- Assumes nothing.
use Rattle.std.specs.Prelude.{ℕ, suc, ◌-◌, ◌<◌, ◌≡◌, ◌↔◌, Bool, true, false, cond, ◌&&◌, ◌||◌, List, [], ◌∷◌, map, eqb, ltb, get_or}
use Rattle.calls.specs.declared.Refusal.{Refusal}
use Rattle.calls.specs.Answers.{refused_by, accepted, first_of, number_of}

-- the numbers of the table in the order in which they are looked at: 01's, which is that of the numbers, and "4, 5, 14, 15, 6" (02, point 8)
abbrev pub order : List ℕ
order = 1 ∷ 2 ∷ 3 ∷ 4 ∷ 5 ∷ 14 ∷ 15 ∷ 6 ∷ 7 ∷ 8 ∷ 9 ∷ 10 ∷ 11 ∷ 12 ∷ 13 ∷ []

-- the place of a number in a list whose first has some place; 0 where it is not
unfoldable pub place_from : ℕ → List ℕ → ℕ → ℕ
place_from place [] number = 0
place_from place (first ∷ rest) number = cond (eqb first number) place (place_from (suc place) rest number)

-- a number's rank is its place in the order, from 1 on
unfoldable pub rank : ℕ → ℕ
rank number = place_from 1 order number

-- every refusal has a place, and no two have the same; "in the order 4, 5, 14, 15, 6"
pub record Ranked : Type 0 where
  pub placed : (refusal : Refusal) → get_or order (rank (number_of refusal) - 1) 0 ≡ number_of refusal
  pub as_asked : map rank (4 ∷ 5 ∷ 14 ∷ 15 ∷ 6 ∷ []) ≡ 4 ∷ 5 ∷ 6 ∷ 7 ∷ 8 ∷ []

-- whether the line of a number applies
unfoldable pub applies : List (ℕ × Bool) → ℕ → Bool
applies [] number = false
applies ((line, holds) ∷ rest) number = (eqb line number && holds) || applies rest number

-- a number applies, and none of lower rank does
abbrev pub IsFirst : List (ℕ × Bool) → ℕ → Type 0
IsFirst lines number = (applies lines number ≡ true) × ((earlier : ℕ) → rank earlier < rank number → applies lines earlier ≡ false)

-- the lines of a table stand in the order, from above a rank on
unfoldable pub stand_from : ℕ → List (ℕ × Bool) → Bool
stand_from bound [] = true
stand_from bound ((line, holds) ∷ rest) = ltb bound (rank line) && stand_from (rank line) rest

-- "Where the table of answers and the history say the lowest, the first in this order is now meant" (02, point 8): refused by a number exactly
-- where it is the first to apply, else answered with the value
pub record First {A : Type 0} (lines : List (ℕ × Bool)) (value : A) : Type 0 where
  pub refused : (number : ℕ) → (first_of lines value ≡ refused_by number) ↔ IsFirst lines number
  pub answered : (first_of lines value ≡ accepted value) ↔ ((number : ℕ) → applies lines number ≡ false)

-- equal saids, equal answers
abbrev pub ToldApart : {A B : Type 0} → (A → B) → Type 0
ToldApart {A} say = (answer other : A) → say answer ≡ say other → answer ≡ other
