-- What the two kinds of the code take, by whether they have interruptions.
-- Assumes nothing.
use Prim.Native.Nat.{ℕ, zero, suc, ◌≤◌, ◌<◌}
use mathlib.Core.Path.{◌≡◌, refl, sym, ◌∙◌}
use mathlib.Core.Bool.{Bool, true, false, cond, not, ◌&&◌, false≢true}
use mathlib.Core.List.{List}
use native.Mathlib.Omega.{arith}
use native.Mathlib.Decide.{ℕ_discrete}
use lib.Dec.{eqb, leb}
use lib.ListN.{drop}
use borrow.Author.Tests.{not-true, le-leb}
use Rattle.calls.specs.declared.Kind.{Kind}
use Rattle.calls.specs.declared.Kind.TheVariants.{Electricity, Gas}
use Rattle.calls.specs.Limits.{setting_count, figure_count, indicator_count, first_count}
use Rattle.calls.specs.Indicators.{Indicator, electricity, gas, indicators_of, some, is_of_interruptions, takes_interruptions, is_network, takes_setting, takes_figure, takes_mark}
use Rattle.calls.proofs.Flags.{and_left, and_right, or_true_right}

unfoldable pub kinds-opened : Unit {0}
unfolding electricity gas some is_of_interruptions takes_interruptions is_network takes_setting takes_figure takes_mark
kinds-opened = tt

-- two tests that are the same below n, by computing both
abbrev same : Bool → Bool → Bool
same true t = t
same false t = not t

unfoldable agree : ℕ → (ℕ → Bool) → (ℕ → Bool) → Bool
agree zero f g = true
agree (suc n) f g = agree n f g && same (f n) (g n)

agreed : (n : ℕ) (f g : ℕ → Bool) → agree n f g ≡ true → (k : ℕ) → k < n → f k ≡ g k
unfolding agree
agreed zero f g e k lt = absurd (omega arith)
agreed (suc n) f g e k lt = go (ℕ_discrete k n) (agreed n f g (and_left _ (same (f n) (g n)) e) k)
  where
    told : (s t : Bool) → same s t ≡ true → s ≡ t
    told true t e = sym e
    told false t e = sym (not-true t e)

    go : Dec (k ≡ n) → (k < n → f k ≡ g k) → f k ≡ g k
    go (yes here) before = rw here (told (f n) (g n) (and_right (agree n f g) _ e))
    go (no other) before = before (omega (arith, other))

pub has-them : takes_interruptions electricity ≡ true
unfolding kinds-opened
has-them = refl

has-none : takes_interruptions gas ≡ false
unfolding kinds-opened
has-none = refl

-- what a kind without interruptions takes: access points and income, the figures from 4 to 7, the marks from 4 on
abbrev pub gas_setting : ℕ → Bool
gas_setting which = leb 1 which && leb which 2

abbrev pub gas_figure : ℕ → Bool
gas_figure figure = leb 4 figure && leb figure 7

abbrev pub gas_mark : ℕ → Bool
gas_mark indicator = leb 4 indicator

pub setting-taken : (kind : Kind) (which : ℕ) → which < setting_count
    → takes_setting (indicators_of kind) which ≡ cond (takes_interruptions (indicators_of kind)) true (gas_setting which)
unfolding kinds-opened agree
setting-taken Electricity which lt = agreed setting_count (takes_setting electricity) (λ k. true) refl which lt
setting-taken Gas which lt = agreed setting_count (takes_setting gas) gas_setting refl which lt

-- what 11 asks for: all that is taken but the income
pub network-taken : (kind : Kind) (which : ℕ) → which < setting_count
    → is_network (indicators_of kind) which ≡ not (eqb which 2) && takes_setting (indicators_of kind) which
unfolding kinds-opened agree
network-taken Electricity which lt = agreed setting_count (is_network electricity) (λ k. not (eqb k 2) && takes_setting electricity k) refl which lt
network-taken Gas which lt = agreed setting_count (is_network gas) (λ k. not (eqb k 2) && takes_setting gas k) refl which lt

pub figure-taken : (kind : Kind) (figure : ℕ) → figure < figure_count
    → takes_figure (indicators_of kind) figure ≡ cond (takes_interruptions (indicators_of kind)) true (gas_figure figure)
unfolding kinds-opened agree
figure-taken Electricity figure lt = agreed figure_count (takes_figure electricity) (λ k. true) refl figure lt
figure-taken Gas figure lt = agreed figure_count (takes_figure gas) gas_figure refl figure lt

pub mark-taken : (kind : Kind) (indicator : ℕ) → indicator < indicator_count
    → takes_mark (indicators_of kind) indicator ≡ cond (takes_interruptions (indicators_of kind)) true (gas_mark indicator)
unfolding kinds-opened agree
mark-taken Electricity indicator lt = agreed indicator_count (takes_mark electricity) (λ k. true) refl indicator lt
mark-taken Gas indicator lt = agreed indicator_count (takes_mark gas) gas_mark refl indicator lt

-- a kind with interruptions takes the figures that these enter: those that measure them, and the counts
module _ (kind : List Indicator) (figure : ℕ) (has : takes_interruptions kind ≡ true) where
  pub measured-taken : figure ≤ 3 → takes_figure kind figure ≡ true
  unfolding takes_figure is_of_interruptions
  measured-taken le = rw (has, le-leb figure 3 le) refl

  pub count-taken : first_count ≤ figure → takes_figure kind figure ≡ true
  unfolding takes_figure is_of_interruptions
  count-taken le = rw (has, le-leb first_count figure le, or_true_right) refl

-- the indicators of a kind are electricity's, from the first on or from the fifth
pub from_first : (kind : Kind) → indicators_of kind ≡ drop (cond (takes_interruptions (indicators_of kind)) 0 4) electricity
unfolding kinds-opened
from_first Electricity = refl
from_first Gas = refl

-- a kind with interruptions is electricity, and one without them gas
pub with-interruptions : (kind : Kind) → takes_interruptions (indicators_of kind) ≡ true → indicators_of kind ≡ electricity
with-interruptions Electricity has = refl
with-interruptions Gas has = absurd (false≢true (sym has-none ∙ has))

pub without-interruptions : (kind : Kind) → takes_interruptions (indicators_of kind) ≡ false → indicators_of kind ≡ gas
without-interruptions Electricity none = absurd (false≢true (sym none ∙ has-them))
without-interruptions Gas none = refl
