-- The seven filing calls: the operators that each names, its arguments' ranges, and what an accepted one enters and answers (01, "The filing").
-- Assumes nothing.
use Rattle.std.specs.Prelude.{ℕ, ◌+◌, ◌*◌, ◌/◌, Bool, true, false, cond, ◌&&◌, ◌||◌, List, [], ◌∷◌, ◌++◌, ltb, leb, eqb, ℤ, pos, neg_ℤ, nat_abs, ◌-ℤ◌}
use Rattle.std.specs.Int.Signed.{lt_z}
use Rattle.calls.specs.declared.Call.{Call}
use Rattle.calls.specs.declared.Call.TheVariants.{Join, Setting, Interruption, Amount, Mark, Rates, Index}
use Rattle.calls.specs.Limits.{years, first_count, figure_count, setting_count, indicator_count, index_count, setting_limit, rate_limit, index_least, index_most, year_length, last_end, start_before, weight_limit, short_most}
use Rattle.calls.specs.Indicators.{Indicator, takes_interruptions, takes_setting, takes_figure, takes_mark}
use Rattle.calls.specs.Answers.{Acceptance, yes_said, counted_in, left_out_as_short, left_out_under}

-- 14: "An interruption that starts after its end" (02, point 8)
unfoldable pub starts_after_end : ℤ → ℤ → Bool
starts_after_end start end = lt_z end start

-- 15: "one that ends outside the three years or starts too early" (02, point 8); "End is 0 to 94,607,999, start at least -31,536,000"
unfoldable pub outside_period : ℤ → ℤ → Bool
outside_period start end = lt_z end (pos 0) || lt_z (pos last_end) end || lt_z start (neg_ℤ (pos start_before))

-- "Weight is the number of cabins, 1 to 100,000, for MV and 1 for LV"; level 0 is MV, 1 is LV
unfoldable pub weight_in_range : ℕ → ℕ → Bool
weight_in_range level weight = cond (eqb level 0) (leb 1 weight && leb weight weight_limit) (eqb weight 1)

-- an interruption's values other than its times
unfoldable pub details_in_range : ℕ → ℕ → ℕ → ℕ → Bool
details_in_range sign level cause weight = leb sign 1 && leb level 1 && leb cause 4 && weight_in_range level weight

-- how long an interruption lasts
unfoldable pub seconds_of : ℤ → ℤ → ℕ
seconds_of start end = nat_abs (end -ℤ start)

-- "The year is that of the end; each has 31,536,000 seconds"
unfoldable pub year_of : ℤ → ℕ
year_of end = nat_abs end / year_length

-- "An interruption of 180 seconds or less is left out as short; else cause 1, 2 or 3 is left out under that cause; else it counts"
unfoldable pub outcome : ℕ → ℕ → ℕ → Acceptance
outcome cause seconds year = cond (leb seconds short_most) left_out_as_short (cond (leb 1 cause && leb cause 3) (left_out_under cause) (counted_in year))

-- a value for a figure of an operator and year: added with sign 0, subtracted with sign 1
pub record Entry : Type 0 where
  pub operator : ℕ
  pub year : ℕ
  pub figure : ℕ
  pub sign : ℕ
  pub value : ℕ

abbrev pub entry : ℕ → ℕ → ℕ → ℕ → ℕ → Entry
entry operator year figure sign value = record { operator = operator; year = year; figure = figure; sign = sign; value = value }

-- "Counted: weight, and weight times seconds, are added or subtracted. Left out: the book stays."; figures 0 and 1 of MV, 2 and 3 of LV.
-- Since 02, point 2, what stays are figures 0 to 7
unfoldable pub measured_entries : ℕ → ℕ → ℕ → ℕ → ℕ → Acceptance → List Entry
measured_entries operator sign level weight seconds (counted_in year) =
    entry operator year (2 * level) sign weight ∷ entry operator year (2 * level + 1) sign (weight * seconds) ∷ []
measured_entries operator sign level weight seconds yes_said = []
measured_entries operator sign level weight seconds left_out_as_short = []
measured_entries operator sign level weight seconds (left_out_under cause) = []

-- "how many interruptions counted, and how many were left out as short, planned, coupled or exceptional" (02, point 2): the figure of each
-- outcome, 8 to 12 in that order; causes 1, 2 and 3 are planned, coupled and exceptional. No interruption is answered by a plain yes
unfoldable pub count_figure : Acceptance → ℕ
count_figure (counted_in year) = first_count
count_figure left_out_as_short = first_count + 1
count_figure (left_out_under cause) = first_count + 1 + cause
count_figure yes_said = first_count

-- "Every accepted interruption adds or subtracts 1 in one of them" (02, point 2), in the year of its end, besides what it measures
unfoldable pub interruption_entries : ℕ → ℕ → ℕ → ℕ → ℕ → ℕ → Acceptance → List Entry
interruption_entries operator sign level weight seconds year answer =
    measured_entries operator sign level weight seconds answer ++ (entry operator year (count_figure answer) sign 1 ∷ [])

-- what is to be known of a call
pub record Facts : Type 0 where
  -- whether the kind has such a call at all
  pub known : Bool
  -- the operators that it joins, and those that have to be joined (tags 2 to 5)
  pub newcomers : List ℕ
  pub members : List ℕ
  -- whether every value but the operator and an interruption's times is in its range
  pub within_range : Bool
  -- what is wrong with an interruption's times
  pub times_reversed : Bool
  pub times_outside : Bool
  -- what it enters, and what it answers, if nothing refuses it
  pub entries : List Entry
  pub answer : Acceptance

-- of a call without times none is wrong
abbrev pub facts : Bool → List ℕ → List ℕ → Bool → List Entry → Acceptance → Facts
facts known newcomers members within_range entries answer =
    record {
      known = known;
      newcomers = newcomers;
      members = members;
      within_range = within_range;
      times_reversed = false;
      times_outside = false;
      entries = entries;
      answer = answer;
    }

-- the same of a call from a start to an end
abbrev pub with_times : ℤ → ℤ → Facts → Facts
with_times start end call =
    record {
      known = call.known;
      newcomers = call.newcomers;
      members = call.members;
      within_range = call.within_range;
      times_reversed = starts_after_end start end;
      times_outside = outside_period start end;
      entries = call.entries;
      answer = call.answer;
    }

-- a call on a book of a kind: "There an interruption field is refused by 2; figures .., indicators .. and every cabin setting are refused by 5"
unfoldable pub facts_of : List Indicator → Call → Facts
facts_of kind (Join operator) = facts true (operator ∷ []) [] true [] yes_said
facts_of kind (Setting operator which value) =
    facts true [] (operator ∷ []) (ltb which setting_count && takes_setting kind which && leb value (setting_limit which)) [] yes_said
facts_of kind (Interruption operator sign level cause start end weight) =
    let answer : Acceptance = outcome cause (seconds_of start end) (year_of end) in
    with_times start end
    (facts (takes_interruptions kind) [] (operator ∷ []) (details_in_range sign level cause weight)
    (interruption_entries operator sign level weight (seconds_of start end) (year_of end) answer) answer)
facts_of kind (Amount operator year figure sign value) =
    facts true [] (operator ∷ []) (ltb year years && ltb figure figure_count && takes_figure kind figure && leb sign 1)
    (entry operator year figure sign value ∷ []) yes_said
facts_of kind (Mark operator indicator mark) =
    facts true [] (operator ∷ []) (ltb indicator indicator_count && takes_mark kind indicator && leb mark 1) [] yes_said
facts_of kind (Rates pot cap) = facts true [] [] (leb pot rate_limit && leb cap rate_limit) [] yes_said
facts_of kind (Index number value) = facts true [] [] (ltb number index_count && leb index_least value && leb value index_most) [] yes_said
