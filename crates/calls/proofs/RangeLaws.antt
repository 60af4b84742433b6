-- The values of a call in range, as facts about numbers.
-- Assumes nothing.
use Prim.Native.Nat.{ℕ, ◌≤◌, ◌<◌}
use mathlib.Core.Path.{◌≡◌}
use mathlib.Core.Bool.{Bool, true, false, cond, ◌&&◌}
use native.Mathlib.Omega.{arith}
use lib.Dec.{ltb, leb, eqb}
use borrow.Author.Tests.{eqb-true, ltb-true, leb-true}
use mathlib.Core.List.{List}
use Rattle.calls.specs.Indicators.{Indicator, takes_setting, takes_figure, takes_mark}
use Rattle.calls.specs.declared.Call.{Call}
use Rattle.calls.specs.declared.Call.TheVariants.{Join, Setting, Interruption, Amount, Mark, Rates, Index}
use Rattle.calls.specs.Limits.{weight_limit, years, figure_count, setting_count, indicator_count, index_count, setting_limit, rate_limit, index_least, index_most}
use Rattle.calls.specs.Call.{weight_in_range, details_in_range, year_of, facts_of}
use Rattle.calls.proofs.Times.{ends, year_lt}
use Rattle.calls.proofs.Flags.{both, and_left, and_right}

-- what the range of the details says in numbers
pub record Details (sign level cause weight : ℕ) : Type 0 where
  pub sign_most : sign ≤ 1
  pub level_most : level ≤ 1
  pub weight_most : weight ≤ weight_limit

pub details : (sign level cause weight : ℕ) → details_in_range sign level cause weight ≡ true → Details sign level cause weight
unfolding details_in_range weight_in_range
details sign level cause weight e =
    let weighted = both (leb sign 1 && leb level 1 && leb cause 4) _ e in
    let levels = both (leb sign 1) (leb level 1) (both (leb sign 1 && leb level 1) (leb cause 4) weighted.0).0 in
    record {
      sign_most = leb-true sign 1 levels.0;
      level_most = leb-true level 1 levels.1;
      weight_most = go (eqb level 0) weighted.1;
    }
  where
    go : (t : Bool) → cond t (leb 1 weight && leb weight weight_limit) (eqb weight 1) ≡ true → weight ≤ weight_limit
    go true h = leb-true weight weight_limit (both (leb 1 weight) (leb weight weight_limit) h).1
    go false h = omega (arith, eqb-true weight 1 h)

abbrev pub Ranges : List Indicator → Call → Type 0
Ranges kind (Join operator) = Unit {0}
Ranges kind (Setting operator which value) = (which < setting_count) × (value ≤ setting_limit which) × (takes_setting kind which ≡ true)
Ranges kind (Interruption operator sign level cause start end weight) = (sign ≤ 1) × (level ≤ 1) × (year_of end < years)
Ranges kind (Amount operator year figure sign value) = (year < years) × (figure < figure_count) × (sign ≤ 1) × (takes_figure kind figure ≡ true)
Ranges kind (Mark operator indicator mark) = (indicator < indicator_count) × (mark ≤ 1) × (takes_mark kind indicator ≡ true)
Ranges kind (Rates pot cap) = (pot ≤ rate_limit) × (cap ≤ rate_limit)
Ranges kind (Index number value) = (number < index_count) × (index_least ≤ value) × (value ≤ index_most)

-- 5 and 15 let it pass
pub ranges : (kind : List Indicator) (call : Call) → (facts_of kind call).within_range ≡ true → (facts_of kind call).times_outside ≡ false → Ranges kind call
unfolding facts_of
ranges kind (Join operator) e timely = tt
ranges kind (Setting operator which value) e timely =
    let places : ltb which setting_count && takes_setting kind which ≡ true = and_left _ (leb value (setting_limit which)) e in (
      ltb-true which _ (and_left _ (takes_setting kind which) places),
      leb-true value _ (and_right (ltb which setting_count && takes_setting kind which) _ e),
      and_right (ltb which setting_count) _ places,
    )
ranges kind (Interruption operator sign level cause start end weight) e timely =
    let within = details sign level cause weight e in
    (within.sign_most, within.level_most, year_lt (ends start end timely))
ranges kind (Amount operator year figure sign value) e timely =
    let taken : ltb year years && ltb figure figure_count && takes_figure kind figure ≡ true = and_left _ (leb sign 1) e in
    let places : ltb year years && ltb figure figure_count ≡ true = and_left _ (takes_figure kind figure) taken in (
      ltb-true year _ (and_left _ (ltb figure figure_count) places),
      ltb-true figure _ (and_right (ltb year years) _ places),
      leb-true sign 1 (and_right (ltb year years && ltb figure figure_count && takes_figure kind figure) _ e),
      and_right (ltb year years && ltb figure figure_count) _ taken,
    )
ranges kind (Mark operator indicator mark) e timely =
    let places : ltb indicator indicator_count && takes_mark kind indicator ≡ true = and_left _ (leb mark 1) e in (
      ltb-true indicator _ (and_left _ (takes_mark kind indicator) places),
      leb-true mark 1 (and_right (ltb indicator indicator_count && takes_mark kind indicator) _ e),
      and_right (ltb indicator indicator_count) _ places,
    )
ranges kind (Rates pot cap) e timely = (leb-true pot _ (and_left (leb pot rate_limit) _ e), leb-true cap _ (and_right (leb pot rate_limit) _ e))
ranges kind (Index number value) e timely =
    let least : ltb number index_count && leb index_least value ≡ true = and_left _ (leb value index_most) e in (
      ltb-true number _ (and_left _ (leb index_least value) least),
      leb-true 1 value (and_right (ltb number index_count) _ least),
      leb-true value _ (and_right (ltb number index_count && leb index_least value) _ e),
    )
