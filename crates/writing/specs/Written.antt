-- A book's written filing: the calls by which it differs from a fresh one, as fields (01, "The filing").
-- Assumes nothing.
use Rattle.std.specs.Prelude.{ℕ, zero, suc, cond, not, ◌&&◌, List, [], ◌∷◌, ◌++◌, eqb}
use Rattle.book.specs.declared.Book.{Book}
use Rattle.calls.specs.declared.Call.{Call}
use Rattle.calls.specs.declared.Call.TheVariants.{Join, Setting, Amount, Mark, Rates, Index}
use Rattle.calls.specs.Indicators.{Indicator, electricity, gas, takes_mark}
use Rattle.calls.specs.Limits.{operators, years, figure_count, setting_count, indicator_count, index_count, fresh_index}
use Rattle.book.specs.Book.{is_joined, is_marked, setting_of, figure_of, index_of}
use Rattle.fields.specs.Encoding.{encoded}

-- the lists f 0 to f (n - 1), one after the other
unfoldable pub in_turn : {A : Type 0} → ℕ → (ℕ → List A) → List A
in_turn zero f = []
in_turn (suc n) f = in_turn n f ++ f n

-- one call where a value differs from its fresh one
abbrev pub unless_fresh : ℕ → ℕ → Call → List Call
unless_fresh value fresh call = cond (eqb value fresh) [] (call ∷ [])

module _ (b : Book) where
  unfoldable pub join_calls : List Call
  join_calls = in_turn operators (λ (operator : ℕ). cond (is_joined b operator) (Join operator ∷ []) [])

  -- "by operator, then year, then which, figure or indicator"
  unfoldable pub setting_calls : List Call
  setting_calls =
      in_turn operators (λ (operator : ℕ). in_turn setting_count (λ (which : ℕ).
      unless_fresh (setting_of b operator which) 0 (Setting operator which (setting_of b operator which))))

  -- "amounts with sign 0"
  unfoldable pub amount_calls : List Call
  amount_calls =
      in_turn operators (λ (operator : ℕ). in_turn years (λ (year : ℕ). in_turn figure_count (λ (figure : ℕ).
      unless_fresh (figure_of b operator year figure) 0 (Amount operator year figure 0 (figure_of b operator year figure)))))

  unfoldable pub index_calls : List Call
  index_calls = in_turn index_count (λ (number : ℕ). unless_fresh (index_of b number) fresh_index (Index number (index_of b number)))

  -- "rates (one field if either isn't 0)"
  unfoldable pub rate_calls : List Call
  rate_calls = cond (eqb b.pot_rate 0 && eqb b.cap_rate 0) [] (Rates b.pot_rate b.cap_rate ∷ [])

-- a book of a kind
module _ (kind : List Indicator) (b : Book) where
  -- "the cleared marks of joined operators and no set ones" (02, point 1), at the kind's indicators: "the gas writer puts out no other mark"
  -- (point 4)
  unfoldable pub mark_calls : List Call
  mark_calls =
      in_turn operators (λ (operator : ℕ). in_turn indicator_count (λ (indicator : ℕ).
      cond (is_joined b operator && (takes_mark kind indicator && not (is_marked b operator indicator))) (Mark operator indicator 0 ∷ []) []))

  -- "only what differs from fresh: joins, settings, amounts, marks .., indices, rates"
  unfoldable pub written_calls : List Call
  written_calls = join_calls b ++ setting_calls b ++ amount_calls b ++ mark_calls ++ index_calls b ++ rate_calls b

-- calls as the bytes of a filing
unfoldable pub filing_of : List Call → List ℕ
filing_of [] = []
filing_of (call ∷ rest) = encoded call ++ filing_of rest

unfoldable pub written_as : List Indicator → Book → List ℕ
written_as kind b = filing_of (written_calls kind b)

-- "Filing, writing and settling have calls of their own for a gas book" (02, point 4); a book is electricity's else
abbrev pub written : Book → List ℕ
written = written_as electricity

abbrev pub written_gas : Book → List ℕ
written_gas = written_as gas
