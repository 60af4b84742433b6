-- Lists of calls that are all accepted and lead from one book in range to another, and how they follow each other.
-- Assumes nothing.
use Prim.Native.Nat.{ℕ, zero, suc, ◌+◌, ◌*◌, ◌<◌}
use native.Mathlib.Nat.{suc-mul}
use mathlib.Core.Path.{◌≡◌, refl, ap, ◌∙◌}
use mathlib.Core.Bool.{true, false}
use mathlib.Core.List.{List, [], ◌∷◌, ◌++◌}
use native.Mathlib.Omega.{arith}
use Rattle.book.specs.declared.Book.{Book}
use Rattle.calls.specs.declared.Call.{Call}
use Rattle.calls.specs.Indicators.{Indicator}
use Rattle.calls.specs.Answers.{on_answer, is_refused, Acceptance}
use Rattle.book.specs.Book.{in_range}
use Rattle.ledger.specs.Calls.{Outcome, apply, file_as, filed_book, filed_answers}
use Rattle.ledger.proofs.AdmissionLaws.{accepted_call}
use Rattle.history.proofs.Kept.{filed-applied, all_stay}
use Rattle.writing.specs.Written.{in_turn}
use Rattle.writing.specs.Laws.{NoneRefused}

pub record Leads (kind : List Indicator) (from : Book) (calls : List Call) (to : Book) : Type 0 where
  pub ranged : in_range kind from ≡ true
  pub to_is : filed_book kind from calls ≡ to
  pub fine : NoneRefused (filed_answers kind from calls)

module _ {kind : List Indicator} {from to : Book} {calls : List Call} (leads : Leads kind from calls to) where
  pub stays-ranged : in_range kind to ≡ true
  stays-ranged = rw (← leads.to_is) (all_stay kind calls from leads.ranged)

-- no call
pub leads-none : (kind : List Indicator) (b : Book) → in_range kind b ≡ true → Leads kind b [] b
unfolding filed_book filed_answers
leads-none kind b ranged = record { ranged = ranged; to_is = refl; fine = tt }

-- one call that is accepted
pub leads_one : (kind : List Indicator) (from : Book) (call : Call) (to : Book) (value : Acceptance) → in_range kind from ≡ true → apply kind from call ≡ accepted_call to value
    → Leads kind from (call ∷ []) to
unfolding filed_book filed_answers is_refused on_answer
leads_one kind from call to value ranged gives =
    let filed : file_as kind from call ≡ accepted_call to value = filed-applied kind from call ranged ∙ gives in
    record { ranged = ranged; to_is = ap (λ (o : Outcome). o.book) filed; fine = (ap (λ (o : Outcome). is_refused o.said) filed, tt) }

-- one list after another
filed_after : (kind : List Indicator) (from : Book) (calls more : List Call) → filed_book kind from (calls ++ more) ≡ filed_book kind (filed_book kind from calls) more
unfolding filed_book
filed_after kind from [] more = refl
filed_after kind from (call ∷ calls) more = filed_after kind (file_as kind from call).book calls more

fine-after : (kind : List Indicator) (from : Book) (calls more : List Call) → NoneRefused (filed_answers kind from calls) → NoneRefused (filed_answers kind (filed_book kind from calls) more)
    → NoneRefused (filed_answers kind from (calls ++ more))
unfolding filed_book filed_answers
fine-after kind from [] more fine later = later
fine-after kind from (call ∷ calls) more fine later = (fine.0, fine-after kind (file_as kind from call).book calls more fine.1 later)

pub leads-then : {kind : List Indicator} {from middle to : Book} {calls more : List Call} → Leads kind from calls middle → Leads kind middle more to → Leads kind from (calls ++ more) to
leads-then {kind} {from} {middle} {to} {calls} {more} first second =
    record {
      ranged = first.ranged;
      to_is = filed_after kind from calls more ∙ rw first.to_is second.to_is;
      fine = fine-after kind from calls more first.fine (rw first.to_is second.fine);
    }

-- a list for each number, each leading from one stage to the next
pub leads-turns : (kind : List Indicator) (n : ℕ) (f : ℕ → List Call) (stage : ℕ → Book) → in_range kind (stage 0) ≡ true
    → ((k : ℕ) → k < n → in_range kind (stage k) ≡ true → Leads kind (stage k) (f k) (stage (suc k)))
    → Leads kind (stage 0) (in_turn n f) (stage n)
unfolding in_turn
leads-turns kind zero f stage ranged step = leads-none kind (stage 0) ranged
leads-turns kind (suc n) f stage ranged step =
    let before = leads-turns kind n f stage ranged (λ k lt. step k (omega arith)) in
    leads-then before (step n (omega arith) (stays-ranged before))

-- the same by rows of m
pub leads-rows : (kind : List Indicator) (n m : ℕ) (f : ℕ → ℕ → List Call) (stage : ℕ → Book) → in_range kind (stage 0) ≡ true
    → ((row k : ℕ) → row < n → k < m → in_range kind (stage (row * m + k)) ≡ true → Leads kind (stage (row * m + k)) (f row k) (stage (suc (row * m + k))))
    → Leads kind (stage 0) (in_turn n (λ (row : ℕ). in_turn m (f row))) (stage (n * m))
leads-rows kind n m f stage ranged step = rw none at (leads-turns kind n (λ (row : ℕ). in_turn m (f row)) (λ (row : ℕ). stage (row * m)) (rw none ranged) one)
  where
    none : 0 * m ≡ 0
    none = omega arith

    one : (row : ℕ) → row < n → in_range kind (stage (row * m)) ≡ true → Leads kind (stage (row * m)) (in_turn m (f row)) (stage (suc row * m))
    one row lt within_range =
        let first : row * m + 0 ≡ row * m = omega arith in
        let last : row * m + m ≡ suc row * m = rw suc-mul (omega arith) in
        rw (first, last) at
        (leads-turns kind m (f row) (λ (k : ℕ). stage (row * m + k)) (rw first within_range)
        (λ k below here. rw (next k) (step row k lt below here)))
      where
        next : (k : ℕ) → row * m + suc k ≡ suc (row * m + k)
        next k = omega arith
