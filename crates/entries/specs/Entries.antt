-- The calls of a written filing by place, one at each place or none, and what an entry has of them.
-- Assumes nothing.
use Rattle.std.specs.Prelude.{ℕ, ◌+◌, ◌*◌, ◌-◌, ◌/◌, ◌%◌, ◌≤◌, ◌≡◌, cond, not, ◌&&◌, List, [], ◌∷◌, eqb, ltb, length, get_or, Option, Some, None}
use Rattle.book.specs.declared.Book.{Book}
use Rattle.calls.specs.declared.Call.{Call}
use Rattle.calls.specs.declared.Call.TheVariants.{Join, Setting, Amount, Mark, Rates, Index}
use Rattle.calls.specs.Indicators.{Indicator, takes_mark}
use Rattle.calls.specs.Limits.{operators, years, figure_count, setting_count, indicator_count, index_count, fresh_index}
use Rattle.calls.specs.Masks.{has}
use Rattle.book.specs.Book.{setting_slot, figure_slot}
use Rattle.encoding.specs.Fields.{bytes_in}
use Rattle.writing.specs.Written.{unless_fresh, filing_of}
use Rattle.encoding.specs.declared.Encoded.{Encoded}

-- the bytes of an entry: a field, or nothing
abbrev pub entry_bytes : Option Encoded → List ℕ
entry_bytes None = []
entry_bytes (Some field) = bytes_in field

-- an entry has the bytes of some calls, one or none
pub record EntryOf (entry : Option Encoded) (calls : List Call) : Type 0 where
  pub bytes : entry_bytes entry ≡ filing_of calls
  pub short : length (entry_bytes entry) ≤ 15

-- the calls at a place, counted from the first of its kind
unfoldable pub join_at : ℕ → ℕ → List Call
join_at joined place = cond (has joined place) (Join place ∷ []) []

unfoldable pub setting_at : List ℕ → ℕ → List Call
setting_at settings place =
    let value : ℕ = get_or settings (setting_slot (place / setting_count) (place % setting_count)) 0 in
    unless_fresh value 0 (Setting (place / setting_count) (place % setting_count) value)

unfoldable pub amount_at : List ℕ → ℕ → List Call
amount_at figures place =
    let operator : ℕ = place / (years * figure_count) in
    let year : ℕ = place % (years * figure_count) / figure_count in
    let figure : ℕ = place % figure_count in
    let value : ℕ = get_or figures (figure_slot operator year figure) 0 in
    unless_fresh value 0 (Amount operator year figure 0 value)

unfoldable pub mark_at : List Indicator → ℕ → List ℕ → ℕ → List Call
mark_at kind joined marks place =
    let operator : ℕ = place / indicator_count in
    let indicator : ℕ = place % indicator_count in
    cond (has joined operator && (takes_mark kind indicator && not (has (get_or marks indicator 0) operator))) (Mark operator indicator 0 ∷ []) []

unfoldable pub index_at : List ℕ → ℕ → List Call
index_at indices place = unless_fresh (get_or indices place 0) fresh_index (Index place (get_or indices place 0))

unfoldable pub rates_at : ℕ → ℕ → List Call
rates_at pot cap = cond (eqb pot 0 && eqb cap 0) [] (Rates pot cap ∷ [])

-- where each kind begins, joins being the first
abbrev pub settings_from : ℕ
settings_from = operators

abbrev pub amounts_from : ℕ
amounts_from = settings_from + operators * setting_count

abbrev pub marks_from : ℕ
marks_from = amounts_from + operators * (years * figure_count)

abbrev pub indices_from : ℕ
indices_from = marks_from + operators * indicator_count

abbrev pub rates_from : ℕ
rates_from = indices_from + index_count

-- rates are the last
abbrev pub places : ℕ
places = rates_from + 1

-- the calls at a place of the written filing of a book of a kind
unfoldable pub calls_at : List Indicator → Book → ℕ → List Call
calls_at kind b place =
    cond (ltb place settings_from) (join_at b.joined place)
    (cond (ltb place amounts_from) (setting_at b.settings (place - settings_from))
    (cond (ltb place marks_from) (amount_at b.figures (place - amounts_from))
    (cond (ltb place indices_from) (mark_at kind b.joined b.marks (place - marks_from))
    (cond (ltb place rates_from) (index_at b.indices (place - indices_from)) (rates_at b.pot_rate b.cap_rate)))))
