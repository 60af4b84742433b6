-- `posting::in_place::enter_judged` meets its contract.
-- Assumes nothing.
use mathlib.Core.Path.{refl}
use native.Mathlib.Omega.{arith}
use Rattle.calls.specs.Answers.{on_answer, is_refused, counted_in, left_out_as}
use Rattle.judging.proofs.JudgedLaws.{left-out-counted, left-out-known}
use Rattle.posting.proofs.AnswerLaws.{refused-as}
use Rattle.posting.proofs.in_place.enter_judged.Goals as goal

-- 8 or 9 of one that counts
pub returns-in_err-enter_counted-in-None-clause-enters : goal.returns-in_err-enter_counted-in-None-clause-enters
returns-in_err-enter_counted-in-None-clause-enters c =
    let a = c.args.admitted in
    rw (refused-as _ _ _ c.from_residual.ensures.1, ← c.judge.ensures a.year, c.in-None.is) (c.in_err-enter_counted-in-None.ensures (counted_in a.year))

-- counted
pub returns-in_ok-enter_counted-in-None-clause-enters : goal.returns-in_ok-enter_counted-in-None-clause-enters
returns-in_ok-enter_counted-in-None-clause-enters c =
    let a = c.args.admitted in
    rw (← c.judge.ensures a.year, c.in-None.is) (c.in_ok-enter_counted-in-None.ensures (counted_in a.year))

pub returns-in_ok-enter_counted-in-None-clause-none_refused : goal.returns-in_ok-enter_counted-in-None-clause-none_refused
unfolding is_refused on_answer
returns-in_ok-enter_counted-in-None-clause-none_refused c = refl

pub invariant_of-one : goal.invariant_of-one
invariant_of-one c =
    let a = c.args.admitted in
    record {
      in_range = record {
        operator_known = a.in_range.operator_known;
        year_known = a.in_range.year_known;
        figure_known = rw c.count_figure.ensures (left-out-known c.in-Some.reason);
        sign_most = omega (arith, a.in_range.sign_most);
      };
    }

-- 8 or 9 of the count of one that is left out
pub returns-in_err-enter-in-Some-clause-enters : goal.returns-in_err-enter-in-Some-clause-enters
returns-in_err-enter-in-Some-clause-enters c =
    let a = c.args.admitted in
    rw (refused-as _ _ _ c.from_residual-in_err-enter-in-Some.ensures.1, ← c.judge.ensures a.year, c.in-Some.is, left-out-counted)
    (rw c.count_figure.ensures at (c.in_err-enter-in-Some.ensures (left_out_as c.in-Some.reason)))

-- left out
pub returns-in_ok-enter-in-Some-clause-enters : goal.returns-in_ok-enter-in-Some-clause-enters
returns-in_ok-enter-in-Some-clause-enters c =
    let a = c.args.admitted in
    rw (← c.judge.ensures a.year, c.in-Some.is, left-out-counted)
    (rw c.count_figure.ensures at (c.in_ok-enter-in-Some.ensures (left_out_as c.in-Some.reason)))

pub returns-in_ok-enter-in-Some-clause-none_refused : goal.returns-in_ok-enter-in-Some-clause-none_refused
unfolding is_refused on_answer
returns-in_ok-enter-in-Some-clause-none_refused c = refl
