-- The calls that a book in range is written as fit their bytes, and their filing has at most so many bytes as the law says.
-- Assumes nothing.
use Prim.Native.Nat.{ℕ, zero, suc, ◌+◌, ◌*◌, ◌≤◌, ◌<◌}
use mathlib.Core.Path.{◌≡◌, refl, sym, ap, ◌∙◌}
use mathlib.Core.Bool.{Bool, true, false, cond, not, ◌&&◌}
use mathlib.Core.List.{List, [], ◌∷◌, ◌++◌, append_assoc}
use native.Mathlib.Nat.{suc-mul}
use native.Mathlib.Omega.{arith}
use lib.Dec.{eqb}
use lib.ListN.{length, length-append}
use Rattle.book.specs.declared.Book.{Book}
use Rattle.calls.specs.declared.Call.{Call}
use Rattle.calls.specs.declared.Call.TheVariants.{Join, Setting, Amount, Mark, Rates, Index}
use Rattle.calls.specs.Indicators.{Indicator, takes_setting, takes_figure, takes_mark}
use Rattle.calls.specs.Call.{facts_of}
use Rattle.calls.proofs.Flags.{and-false-right}
use Rattle.calls.proofs.SettingLaws.{limit-most}
use Rattle.calls.specs.Limits.{operators, years, figure_count, setting_count, indicator_count, index_count, setting_limit, figure_limit, fresh_index}
use Rattle.book.specs.Book.{is_joined, is_marked, setting_of, figure_of, index_of, in_range}
use Rattle.book.proofs.Bounds.{Bounds, most-le}
use Rattle.book.proofs.TakenLaws.{Ranged, ranged as to-ranged}
use Rattle.fields.specs.Encoding.{in_bytes, field_of, encoded, FitsBytes}
use Rattle.writing.specs.Written.{in_turn, join_calls, setting_calls, amount_calls, mark_calls, index_calls, rate_calls, written_calls, filing_of}
use Rattle.writing.specs.Laws.{how_many, written_most_as}
use Rattle.writing.proofs.ReadBack.{AllFit}

-- calls that fit their bytes, and a filing of at most so many bytes
pub record Small (kind : List Indicator) (calls : List Call) (bytes : ℕ) : Type 0 where
  pub fits : AllFit kind calls
  pub size : length (filing_of calls) ≤ bytes

module _ {kind : List Indicator} where
  small-none : (bytes : ℕ) → Small kind [] bytes
  unfolding filing_of
  small-none bytes = record { fits = tt; size = omega arith }

  small_one : (call : Call) (bytes : ℕ) → (facts_of kind call).known ≡ true → FitsBytes call → length (encoded call) ≤ bytes → Small kind (call ∷ []) bytes
  unfolding filing_of
  small_one call bytes had fits size = record { fits = (had, fits, tt); size = rw length-append (omega arith) }

  -- one call or none
  small-if : (t : Bool) (call : Call) (bytes : ℕ) → (facts_of kind call).known ≡ true → FitsBytes call → length (encoded call) ≤ bytes
      → Small kind (cond t (call ∷ []) []) bytes
  small-if true call bytes had fits size = small_one call bytes had fits size
  small-if false call bytes had fits size = small-none bytes

  small-unless : (t : Bool) (call : Call) (bytes : ℕ) → (facts_of kind call).known ≡ true → FitsBytes call → length (encoded call) ≤ bytes
      → Small kind (cond t [] (call ∷ [])) bytes
  small-unless true call bytes had fits size = small-none bytes
  small-unless false call bytes had fits size = small_one call bytes had fits size

all-fit-then : (kind : List Indicator) (calls more : List Call) → AllFit kind calls → AllFit kind more → AllFit kind (calls ++ more)
all-fit-then kind [] more fits later = later
all-fit-then kind (call ∷ calls) more fits later = (fits.0, fits.1, all-fit-then kind calls more fits.2 later)

pub filing-then : (calls more : List Call) → filing_of (calls ++ more) ≡ filing_of calls ++ filing_of more
unfolding filing_of
filing-then [] more = refl
filing-then (call ∷ calls) more = ap (λ (l : List ℕ). encoded call ++ l) (filing-then calls more) ∙ sym (append_assoc (encoded call) (filing_of calls) (filing_of more))

module _ {kind : List Indicator} where
  small-then : {calls more : List Call} {bytes others : ℕ} → Small kind calls bytes → Small kind more others → Small kind (calls ++ more) (bytes + others)
  small-then {calls} {more} first second =
      record {
        fits = all-fit-then kind calls more first.fits second.fits;
        size = rw (filing-then calls more, length-append) (omega (arith, first.size, second.size));
      }

  small-turns : (n : ℕ) (f : ℕ → List Call) (bytes : ℕ) → ((k : ℕ) → k < n → Small kind (f k) bytes) → Small kind (in_turn n f) (n * bytes)
  unfolding in_turn
  small-turns zero f bytes each = small-none (0 * bytes)
  small-turns (suc n) f bytes each =
      let more : n * bytes + bytes ≡ suc n * bytes = rw suc-mul (omega arith) in
      rw more at (small-then (small-turns n f bytes (λ k lt. each k (omega arith))) (each n (omega arith)))

  -- the same where only some of the numbers have calls
  small-some : (n : ℕ) (test : ℕ → Bool) (f : ℕ → List Call) (bytes : ℕ) → ((k : ℕ) → k < n → test k ≡ true → Small kind (f k) bytes)
      → ((k : ℕ) → k < n → test k ≡ false → f k ≡ []) → Small kind (in_turn n f) (how_many n test * bytes)
  unfolding in_turn how_many
  small-some zero test f bytes each none = small-none (0 * bytes)
  small-some (suc n) test f bytes each none =
      rw (distributed (how_many n test) (cond (test n) 1 0)) (small-then (small-some n test f bytes (λ k lt. each k (omega arith)) (λ k lt. none k (omega arith))) (last (test n) refl))
    where
      distributed : (x y : ℕ) → (x + y) * bytes ≡ x * bytes + y * bytes
      distributed x y = omega arith

      last : (t : Bool) → test n ≡ t → Small kind (f n) (cond t 1 0 * bytes)
      last true e =
          let once : 1 * bytes ≡ bytes = omega arith in
          rw once (each n (omega arith) e)
      last false e = rw (none n (omega arith) e) (small-none (0 * bytes))

-- no call of a value that is 0
unless-zero : (value : ℕ) (call : Call) → value ≡ 0 → cond (eqb value 0) [] (call ∷ []) ≡ []
unless-zero value call zero-value = rw zero-value refl

module _ (kind : List Indicator) (b : Book) (within_range : in_range kind b ≡ true) where
  ranged : Ranged kind b
  ranged = to-ranged kind b within_range

  bounds : Bounds b
  bounds = ranged.bounds

  joins-small : Small kind (join_calls b) (operators * 4)
  unfolding join_calls encoded field_of in_bytes facts_of
  joins-small = small-turns operators _ 4 (λ o lo. small-if (is_joined b o) (Join o) 4 refl tt (omega arith))

  settings-small : Small kind (setting_calls b) (operators * (how_many setting_count (takes_setting kind) * 13))
  unfolding setting_calls encoded field_of in_bytes setting_of facts_of
  settings-small =
      small-turns operators _ (how_many setting_count (takes_setting kind) * 13)
      (λ o lo. small-some setting_count (takes_setting kind) _ 13
      (λ w lw taken. small-unless (eqb (setting_of b o w) 0) (Setting o w (setting_of b o w)) 13 refl
      (omega (arith, bounds.settings.within o w lo lw, most-le b.joined o (setting_limit w), limit-most w)) (omega arith))
      (λ w lw none. unless-zero (setting_of b o w) _ (ranged.settings o w lo lw none)))

  amounts-small : Small kind (amount_calls b) (operators * (years * (how_many figure_count (takes_figure kind) * 15)))
  unfolding amount_calls encoded field_of in_bytes figure_of facts_of
  amounts-small =
      small-turns operators _ (years * (how_many figure_count (takes_figure kind) * 15))
      (λ o lo. small-turns years _ (how_many figure_count (takes_figure kind) * 15)
      (λ y ly. small-some figure_count (takes_figure kind) _ 15
      (λ f lf taken. small-unless (eqb (figure_of b o y f) 0) (Amount o y f 0 (figure_of b o y f)) 15 refl
      (omega (arith, bounds.figures.within o y f lo ly lf, most-le b.joined o figure_limit)) (omega arith))
      (λ f lf none. unless-zero (figure_of b o y f) _ (ranged.figures o y f lo ly lf none))))

  marks-small : Small kind (mark_calls kind b) (operators * (how_many indicator_count (takes_mark kind) * 6))
  unfolding mark_calls encoded field_of in_bytes facts_of
  marks-small =
      small-turns operators _ (how_many indicator_count (takes_mark kind) * 6)
      (λ o lo. small-some indicator_count (takes_mark kind) _ 6
      (λ i li taken. small-if (is_joined b o && (takes_mark kind i && not (is_marked b o i))) (Mark o i 0) 6 refl tt (omega arith))
      (λ i li none. rw (none, and-false-right) refl))

  indices-small : Small kind (index_calls b) (index_count * 8)
  unfolding index_calls encoded field_of in_bytes index_of facts_of
  indices-small =
      small-turns index_count _ 8
      (λ n ln. small-unless (eqb (index_of b n) fresh_index) (Index n (index_of b n)) 8 refl (omega (arith, (bounds.indices.within n ln).1)) (omega arith))

  rates-small : Small kind (rate_calls b) 11
  unfolding rate_calls encoded field_of in_bytes facts_of
  rates-small =
      small-unless (eqb b.pot_rate 0 && eqb b.cap_rate 0) (Rates b.pot_rate b.cap_rate) 11 refl
      (omega (arith, bounds.rates.pot_rate), omega (arith, bounds.rates.cap_rate)) (omega arith)

  pub written_small : Small kind (written_calls kind b) (written_most_as kind)
  unfolding written_calls written_most_as
  written_small =
      small-then (small-then (small-then (small-then (small-then joins-small settings-small) amounts-small) marks-small) indices-small) rates-small
