-- Calls that are accepted on a book where they file a value within its range for a joined operator.
-- Assumes nothing.
use Prim.Native.Nat.{ℕ, ◌+◌, ◌-◌, ◌≤◌, ◌<◌}
use mathlib.Core.Path.{◌≡◌, refl, ◌∙◌}
use mathlib.Core.Bool.{true, false}
use mathlib.Core.List.{List}
use native.Mathlib.Omega.{arith}
use lib.ListN.{get_or, set}
use borrow.Author.Tests.{lt-ltb, le-ltb, le-leb, lt-leb}
use Rattle.book.specs.declared.Book.{Book}
use Rattle.calls.specs.declared.Call.TheVariants.{Join, Setting, Amount, Mark, Rates, Index}
use Rattle.calls.specs.Limits.{operators, years, figure_count, setting_count, indicator_count, index_count, setting_limit, figure_limit, rate_limit, index_least, index_most}
use Rattle.calls.specs.Masks.{has, including, excluding, remasked}
use Rattle.calls.specs.Answers.{yes_said}
use Rattle.calls.specs.Indicators.{Indicator, some, takes_setting, takes_figure, takes_mark}
use Rattle.calls.specs.Call.{entry, facts_of}
use Rattle.book.specs.Book.{with_joined, with_marks, with_settings, with_figures, with_rates, with_indices, is_joined, figure_of, setting_slot, figure_slot}
use Rattle.ledger.specs.Calls.{unattested, changed, apply}
use Rattle.ledger.specs.Steps.{entering}
use Rattle.ledger.proofs.AdmissionLaws.{accepted_call, admitted, done}
use Rattle.ledger.proofs.MoveLaws.{one-moved}

module _ (kind : List Indicator) (c : Book) where
  pub join-accepted : (operator : ℕ) → operator < operators → has c.joined operator ≡ false
      → apply kind c (Join operator)
      ≡ accepted_call (with_marks (with_joined c (including c.joined operator)) (unattested kind c.marks operator)) yes_said
  unfolding facts_of some changed is_joined
  join-accepted operator lo free =
      done kind c (Join operator) refl (rw (lt-leb operators operator lo) refl) refl refl refl (rw free refl) refl refl

  pub setting-accepted : (operator which value : ℕ) → operator < operators → which < setting_count → value ≤ setting_limit which → takes_setting kind which ≡ true
      → has c.joined operator ≡ true
      → apply kind c (Setting operator which value)
      ≡ accepted_call (with_settings c (set c.settings (setting_slot operator which) value)) yes_said
  unfolding facts_of some changed is_joined
  setting-accepted operator which value lo lw le taken joined =
      done kind c (Setting operator which value) refl (rw (lt-leb operators operator lo) refl) (rw (lt-ltb which setting_count lw, taken, le-leb value (setting_limit which) le) refl) refl refl refl
      (rw joined refl) refl

  -- a figure that is 0
  pub amount-accepted : (operator year figure value : ℕ) → operator < operators → year < years → figure < figure_count → value ≤ figure_limit → takes_figure kind figure ≡ true
      → has c.joined operator ≡ true → get_or c.figures (figure_slot operator year figure) 0 ≡ 0
      → apply kind c (Amount operator year figure 0 value)
      ≡ accepted_call (with_figures c (set c.figures (figure_slot operator year figure) value)) yes_said
  unfolding facts_of some changed is_joined entering figure_of
  amount-accepted operator year figure value lo ly lf le taken joined none =
      admitted kind c (Amount operator year figure 0 value) refl (rw (lt-leb operators operator lo) refl)
      (rw (lt-ltb year years ly, lt-ltb figure figure_count lf, taken) refl) refl refl refl (rw joined refl)
      ∙ one-moved c (entry operator year figure 0 value) yes_said value
      (record {
        below_limit = rw none (le-ltb figure_limit (0 + value) (omega arith));
        above_zero = refl;
        reaches = rw none (omega arith);
      })

  -- a mark that is cleared
  pub mark-accepted : (operator indicator : ℕ) → operator < operators → indicator < indicator_count → takes_mark kind indicator ≡ true → has c.joined operator ≡ true
      → apply kind c (Mark operator indicator 0)
      ≡ accepted_call (with_marks c (set c.marks indicator (excluding (get_or c.marks indicator 0) operator))) yes_said
  unfolding facts_of some changed is_joined remasked
  mark-accepted operator indicator lo li taken joined =
      done kind c (Mark operator indicator 0) refl (rw (lt-leb operators operator lo) refl) (rw (lt-ltb indicator indicator_count li, taken) refl) refl refl refl (rw joined refl) refl

  pub index-accepted : (number value : ℕ) → number < index_count → index_least ≤ value → value ≤ index_most
      → apply kind c (Index number value)
      ≡ accepted_call (with_indices c (set c.indices number value)) yes_said
  unfolding facts_of some changed
  index-accepted number value ln least most =
      done kind c (Index number value) refl refl (rw (lt-ltb number index_count ln, le-leb index_least value least, le-leb value index_most most) refl) refl refl refl refl refl

  pub rates-accepted : (pot cap : ℕ) → pot ≤ rate_limit → cap ≤ rate_limit
      → apply kind c (Rates pot cap) ≡ accepted_call (with_rates c pot cap) yes_said
  unfolding facts_of some changed
  rates-accepted pot cap pot-le cap-le =
      done kind c (Rates pot cap) refl refl (rw (le-leb pot rate_limit pot-le, le-leb cap rate_limit cap-le) refl) refl refl refl refl refl
