-- An indicator by its number: what holds of every indicator of the list holds of the numbered one.
-- Assumes nothing.
use Prim.Native.Nat.{ℕ, zero, suc, ◌<◌}
use mathlib.Core.Path.{◌≡◌, refl}
use mathlib.Core.Bool.{true, false, false≢true}
use mathlib.Core.List.{List, [], ◌∷◌}
use native.Mathlib.Omega.{arith}
use lib.ListN.{length, get_or}
use Rattle.calls.specs.Limits.{indicator_count}
use Rattle.calls.specs.declared.Kind.{Kind}
use Rattle.calls.specs.declared.Kind.TheVariants.{Electricity, Gas}
use Rattle.calls.specs.Indicators.{Indicator, electricity, gas, indicators_of, takes_mark}
use Rattle.values.specs.Indicator.{numbered, numbered_in}
use Rattle.calls.proofs.KindLaws.{kinds-opened}

-- a fact of each place of a list and the indicator there
abbrev pub Throughout : (ℕ → Indicator → Type 0) → List Indicator → Type 0
Throughout P [] = Unit {0}
Throughout P (indicator ∷ rest) = P 0 indicator × Throughout (λ place. P (suc place)) rest

at_place : (P : ℕ → Indicator → Type 0) (list : List Indicator) (other : Indicator) (n : ℕ) → Throughout P list → n < length list → P n (get_or list n other)
at_place P [] other n all lt = absurd (omega arith)
at_place P (indicator ∷ rest) other zero all lt = all.0
at_place P (indicator ∷ rest) other (suc n) all lt = at_place (λ place. P (suc place)) rest other n all.1 (omega arith)

-- by number it is the one at that place
pub numbered-at : (number : ℕ) (other : Indicator) → number < indicator_count → get_or electricity number other ≡ numbered number
unfolding numbered numbered_in electricity
numbered-at number other lt =
    at_place (λ place indicator. indicator ≡ numbered place) electricity other number (refl, (refl, (refl, (refl, (refl, (refl, tt)))))) lt

pub of-numbered : (P : ℕ → Indicator → Type 0) → Throughout P electricity → (number : ℕ) → number < indicator_count → P number (numbered number)
unfolding electricity
of-numbered P all number lt = rw (numbered-at number (numbered 0) lt) at (at_place P electricity (numbered 0) number all lt)

-- the indicator of a kind by its number
pub kind-numbered : (kind : Kind) (number : ℕ) → number < indicator_count → takes_mark (indicators_of kind) number ≡ true
    → numbered_in (indicators_of kind) number ≡ numbered number
unfolding numbered numbered_in kinds-opened
kind-numbered Electricity number lt taken = refl
kind-numbered Gas number lt taken =
    of-numbered (λ number indicator. takes_mark gas number ≡ true → numbered_in gas number ≡ indicator)
    (none, (none, (none, (none, ((λ taken. refl), ((λ taken. refl), tt)))))) number lt taken
  where
    none : {i j : Indicator} → false ≡ true → i ≡ j
    none e = absurd (false≢true e)

pub number_of : (number : ℕ) → number < indicator_count → (numbered number).number ≡ number
unfolding electricity
number_of = of-numbered (λ number indicator. indicator.number ≡ number) (refl, (refl, (refl, (refl, (refl, (refl, tt))))))
