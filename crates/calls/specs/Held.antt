-- What a book or a history holds, by name, and when two hold the same (01, "The book" and "The history").
-- Assumes nothing.
use Rattle.std.specs.Prelude.{ℕ, ◌<◌, ◌≡◌, Bool}
use Rattle.calls.specs.Limits.{operators, years, figure_count, setting_count, indicator_count, index_count}

pub record Held : Type 0 where
  pub joined : ℕ → Bool
  -- operator, which
  pub setting : ℕ → ℕ → ℕ
  -- operator, indicator
  pub mark : ℕ → ℕ → Bool
  pub pot_rate : ℕ
  pub cap_rate : ℕ
  pub index : ℕ → ℕ
  -- operator, year, figure
  pub total : ℕ → ℕ → ℕ → ℕ

-- what is held, by its parts in the order above
abbrev pub held : (ℕ → Bool) → (ℕ → ℕ → ℕ) → (ℕ → ℕ → Bool) → ℕ → ℕ → (ℕ → ℕ) → (ℕ → ℕ → ℕ → ℕ) → Held
held joined setting mark pot cap index total =
    record { joined = joined; setting = setting; mark = mark; pot_rate = pot; cap_rate = cap; index = index; total = total }

-- "the same when operators, settings and totals are"
pub record Same (g h : Held) : Type 0 where
  pub joined : (operator : ℕ) → operator < operators → g.joined operator ≡ h.joined operator
  pub setting : (operator which : ℕ) → operator < operators → which < setting_count → g.setting operator which ≡ h.setting operator which
  pub mark : (operator indicator : ℕ) → operator < operators → indicator < indicator_count → g.mark operator indicator ≡ h.mark operator indicator
  pub pot_rate : g.pot_rate ≡ h.pot_rate
  pub cap_rate : g.cap_rate ≡ h.cap_rate
  pub index : (number : ℕ) → number < index_count → g.index number ≡ h.index number
  pub total : (operator year figure : ℕ) → operator < operators → year < years → figure < figure_count
      → g.total operator year figure ≡ h.total operator year figure
