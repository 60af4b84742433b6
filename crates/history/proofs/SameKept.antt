-- A book and a history that hold the same still do when one part of each is replaced by parts that hold the same.
-- Assumes nothing.
use Prim.Native.Nat.{ℕ, ◌-◌, ◌<◌}
use mathlib.Core.Path.{◌≡◌, refl}
use mathlib.Core.Bool.{Bool}
use mathlib.Core.List.{List}
use lib.ListN.{get_or}
use Rattle.book.specs.declared.Book.{Book}
use Rattle.calls.specs.Limits.{operators, years, figure_count, setting_count, indicator_count, index_count}
use Rattle.calls.specs.Masks.{has}
use Rattle.calls.specs.Held.{Same}
use Rattle.book.specs.Book.{with_joined, with_marks, with_settings, with_figures, with_rates, with_indices, is_joined, is_marked, setting_of, figure_of, index_of, held_by, setting_slot, figure_slot}
use Rattle.history.specs.History.{History, total, held_in, history_with_operators, history_with_settings, history_with_marks, history_with_rates, history_with_indices, history_with_sums}

module _ (b : Book) (h : History) (held : Same (held_by b) (held_in h)) where
  pub same-with-operators : (joined : ℕ) (noted : ℕ → Bool) → ((operator : ℕ) → operator < operators → has joined operator ≡ noted operator)
      → Same (held_by (with_joined b joined)) (held_in (history_with_operators h noted))
  unfolding is_joined is_marked setting_of figure_of index_of total
  same-with-operators joined noted part =
      record { joined = part; setting = held.setting; mark = held.mark; pot_rate = held.pot_rate; cap_rate = held.cap_rate; index = held.index; total = held.total }

  pub same-with-settings : (settings : List ℕ) (noted : ℕ → ℕ → ℕ)
      → ((operator which : ℕ) → operator < operators → which < setting_count → get_or settings (setting_slot operator which) 0 ≡ noted operator which)
      → Same (held_by (with_settings b settings)) (held_in (history_with_settings h noted))
  unfolding is_joined is_marked setting_of figure_of index_of total
  same-with-settings settings noted part =
      record { joined = held.joined; setting = part; mark = held.mark; pot_rate = held.pot_rate; cap_rate = held.cap_rate; index = held.index; total = held.total }

  pub same-with-marks : (marks : List ℕ) (noted : ℕ → ℕ → Bool)
      → ((operator indicator : ℕ) → operator < operators → indicator < indicator_count → has (get_or marks indicator 0) operator ≡ noted operator indicator)
      → Same (held_by (with_marks b marks)) (held_in (history_with_marks h noted))
  unfolding is_joined is_marked setting_of figure_of index_of total
  same-with-marks marks noted part =
      record { joined = held.joined; setting = held.setting; mark = part; pot_rate = held.pot_rate; cap_rate = held.cap_rate; index = held.index; total = held.total }

  pub same-with-rates : (pot cap : ℕ) → Same (held_by (with_rates b pot cap)) (held_in (history_with_rates h pot cap))
  unfolding is_joined is_marked setting_of figure_of index_of total
  same-with-rates pot cap =
      record { joined = held.joined; setting = held.setting; mark = held.mark; pot_rate = refl; cap_rate = refl; index = held.index; total = held.total }

  pub same-with-indices : (indices : List ℕ) (noted : ℕ → ℕ) → ((number : ℕ) → number < index_count → get_or indices number 0 ≡ noted number)
      → Same (held_by (with_indices b indices)) (held_in (history_with_indices h noted))
  unfolding is_joined is_marked setting_of figure_of index_of total
  same-with-indices indices noted part =
      record { joined = held.joined; setting = held.setting; mark = held.mark; pot_rate = held.pot_rate; cap_rate = held.cap_rate; index = part; total = held.total }

  pub same-with-figures : (figures : List ℕ) (filed withdrawn : ℕ → ℕ → ℕ → ℕ)
      → ((operator year figure : ℕ) → operator < operators → year < years → figure < figure_count
      → get_or figures (figure_slot operator year figure) 0 ≡ filed operator year figure - withdrawn operator year figure)
      → Same (held_by (with_figures b figures)) (held_in (history_with_sums h filed withdrawn))
  unfolding is_joined is_marked setting_of figure_of index_of total
  same-with-figures figures filed withdrawn part =
      record { joined = held.joined; setting = held.setting; mark = held.mark; pot_rate = held.pot_rate; cap_rate = held.cap_rate; index = held.index; total = part }
