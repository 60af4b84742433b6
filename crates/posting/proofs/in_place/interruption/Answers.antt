-- `posting::in_place::interruption` meets its contract.
-- Assumes nothing.
use mathlib.Core.Path.{◌≡◌, refl, sym, ◌∙◌}
use mathlib.Core.Bool.{true}
use mathlib.Core.List.{List}
use Prim.Native.Nat.{ℕ, ◌<◌, ◌≤◌}
use lib.IntN.{ℤ}
use mir.Syntax.{w64}
use mir.Val.{SFits, to_z, of_z}
use Rattle.calls.specs.declared.Call.{Call}
use Rattle.calls.specs.declared.Call.TheVariants.{Interruption}
use Rattle.calls.specs.Limits.{years, longest}
use Rattle.calls.specs.Indicators.{Indicator, indicators_of, takes_interruptions}
use Rattle.calls.specs.Answers.{Said, accepted, first_of}
use Rattle.calls.specs.Call.{starts_after_end, outside_period, details_in_range, seconds_of, year_of, facts_of}
use Rattle.book.specs.declared.Book.{Book}
use Rattle.ledger.specs.Calls.{changed, apply}
use Rattle.ledger.specs.Steps.{interruption_lines, entering}
use Rattle.calls.proofs.Times.{back, ends, year_lt, lasts, seconds_most}
use Rattle.calls.proofs.RangeLaws.{Details, details}
use Rattle.ledger.proofs.AdmissionLaws.{unknown-call, Decides, Passed, interruption-decided}
use Rattle.posting.proofs.AnswerLaws.{refused-as}
use Rattle.posting.proofs.in_place.interruption.Goals as goal
use Rattle.posting.proofs.in_place.interruption.Goals.{In_ok-admit_interruption, After-year_of-year}

-- what the shared checks say of a call, in a kind that has interruptions
module _ (kind : List Indicator) (b : Book) (operator sign level cause weight : ℕ) (start end : ℤ) where
  decided : takes_interruptions kind ≡ true → SFits w64 start → SFits w64 end → (answer : Said (Unit {0}))
      → first_of (interruption_lines b.joined operator (details_in_range sign level cause weight) (to_z w64 (of_z w64 start)) (to_z w64 (of_z w64 end))) tt ≡ answer
      → Decides kind b (Interruption operator sign level cause start end weight) operator
      (details_in_range sign level cause weight) (starts_after_end start end) (outside_period start end) answer
  unfolding facts_of
  decided had start_fits end_fits answer asked =
      interruption-decided kind b (Interruption operator sign level cause start end weight) operator _ had refl refl refl
      start end refl refl answer (rw (back start_fits, back end_fits) at asked)

-- what is known once they are passed
module _ (m : In_ok-admit_interruption) where
  abbrev kind_of : List Indicator
  kind_of = indicators_of m.args.kind

  abbrev call : Call
  call = Interruption m.args.operator m.args.sign m.args.level m.args.cause m.args.start m.args.end m.args.weight

  passed : Passed kind_of m.args.b.now call m.args.operator
      (details_in_range m.args.sign m.args.level m.args.cause m.args.weight) (starts_after_end m.args.start m.args.end) (outside_period m.args.start m.args.end)
  passed =
      decided kind_of m.args.b.now m.args.operator m.args.sign m.args.level m.args.cause m.args.weight m.args.start m.args.end
      (sym m.takes_interruptions.ensures ∙ m.if-not-takes_interruptions.false) m.ranges.start m.ranges.end (accepted tt)
      (sym (rw m.details_in_range-valid.ensures at m.in_ok-admit_interruption.ensures))

  within : Details m.args.sign m.args.level m.args.cause m.args.weight
  within = details m.args.sign m.args.level m.args.cause m.args.weight passed.within_range

  entered : apply kind_of m.args.b.now call ≡ entering m.args.b.now (facts_of kind_of call).entries (facts_of kind_of call).answer
  unfolding facts_of changed
  entered = passed.entered refl

-- what the leaves give
module _ (m : After-year_of-year) where
  seconds-is : m.seconds_of-seconds.result ≡ seconds_of m.args.start m.args.end
  seconds-is = rw (back m.ranges.start, back m.ranges.end) at m.seconds_of-seconds.ensures

  year-is : m.year_of-year.result ≡ year_of m.args.end
  year-is = rw (back m.ranges.end) at m.year_of-year.ensures

  abbrev known : In_ok-admit_interruption
  known = m.before.before

  year_known : m.year_of-year.result < years
  year_known = rw year-is (year_lt (ends m.args.start m.args.end (passed known).timely))

  seconds_within : m.seconds_of-seconds.result ≤ longest
  seconds_within = rw seconds-is (seconds_most (lasts m.args.start m.args.end (passed known).ordered (passed known).timely))

-- 2
pub returns-then-not-takes_interruptions-clause-leaves : goal.returns-then-not-takes_interruptions-clause-leaves
unfolding facts_of
returns-then-not-takes_interruptions-clause-leaves c =
    rw
    (unknown-call (indicators_of c.args.kind) c.args.b.now
    (Interruption c.args.operator c.args.sign c.args.level c.args.cause c.args.start c.args.end c.args.weight)
    (sym c.takes_interruptions.ensures ∙ c.if-not-takes_interruptions.true))
    (refl, refl)

-- 4, 5, 14, 15 or 7
pub returns-in_err-admit_interruption-clause-leaves : goal.returns-in_err-admit_interruption-clause-leaves
returns-in_err-admit_interruption-clause-leaves c =
    rw (
      refused-as _ _ _ c.from_residual.ensures.1,
      decided (indicators_of c.args.kind) c.args.b.now
          c.args.operator c.args.sign c.args.level c.args.cause c.args.weight c.args.start c.args.end
          (sym c.takes_interruptions.ensures ∙ c.if-not-takes_interruptions.false) c.ranges.start c.ranges.end _
          (sym (rw c.details_in_range-valid.ensures at c.in_err-admit_interruption.ensures)),
    )
    (refl, refl)

pub seconds_of-seconds-requires : goal.seconds_of-seconds-requires
seconds_of-seconds-requires c = rw (back c.ranges.start, back c.ranges.end) ((passed c).ordered, (passed c).timely)

pub year_of-year-requires : goal.year_of-year-requires
year_of-year-requires c = rw (back c.ranges.start, back c.ranges.end) (passed c.before).timely

pub invariant_of-admitted : goal.invariant_of-admitted
invariant_of-admitted c =
    let m : After-year_of-year = (goal.at.invariant_of-admitted c).After-year_of-year in
    let within_range = within (known m) in
    record {
      in_range = record {
        operator_known = (passed (known m)).small;
        sign_most = within_range.sign_most;
        level_most = within_range.level_most;
        year_known = year_known m;
        weight_most = within_range.weight_most;
        seconds_most = seconds_within m;
      };
    }

-- judged
pub returns-clause-leaves : goal.returns-clause-leaves
unfolding facts_of
returns-clause-leaves c =
    let m : After-year_of-year = (goal.at.returns-clause-leaves c).After-year_of-year in
    rw (entered (known m)) (rw (year-is m, seconds-is m) at c.enter_judged.ensures.enters)
