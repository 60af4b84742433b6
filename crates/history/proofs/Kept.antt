-- Every list of calls leaves a book that holds what the history holds, with the history's answers (specs/Demand.antt); and a call
-- keeps any book in range, since any book in range holds what some history holds.
-- Assumes nothing.
use Prim.Native.Nat.{ℕ}
use mathlib.Core.Path.{◌≡◌, refl, sym, ap₂, ◌∙◌}
use mathlib.Core.Logic.{inl, inr}
use mathlib.Core.Bool.{true}
use mathlib.Core.List.{List, [], ◌∷◌}
use native.Mathlib.Omega.{arith}
use lib.ListN.{get_or-replicate}
use Rattle.calls.specs.Limits.{fresh_index, index_count, indicator_count, setting_places, figure_places}
use Rattle.book.specs.declared.Book.{Book}
use Rattle.calls.specs.declared.Call.{Call}
use Rattle.calls.specs.Indicators.{Indicator}
use Rattle.calls.specs.Held.{Held, Same}
use Rattle.calls.specs.Answers.{Said, on_answer, Acceptance}
use Rattle.book.specs.Book.{fresh_book, is_joined, is_marked, setting_of, figure_of, index_of, held_by, setting_slot, figure_slot, in_range}
use Rattle.ledger.specs.Calls.{changed, outcome_of, apply, file_as, filed_book, filed_answers}
use Rattle.history.specs.History.{History, history, plain, total, held_in, recorded, note_answer, note_history, noted_history, noted_answers}
use Rattle.history.specs.Demand.{StaysInRange, book_of, history_of, Kept, EqualAsHistories}
use Rattle.calls.proofs.MaskLaws.{has-zero}
use Rattle.book.proofs.Bounds.{bounded}
use Rattle.book.proofs.TakenLaws.{Ranged, ranged-bounds, ranged as to-ranged, within_range}
use Rattle.book.proofs.Opened.{book-opened}
use Rattle.book.proofs.SameBooks.{same_books}
use Rattle.book.proofs.SlotLaws.{setting-slot-lt, figure-slot-lt}
use Rattle.history.proofs.TableLaws.{Decided, decided, same_answer}
use Rattle.history.proofs.StepLaws.{AllCovered, Agrees, changed-agrees}

-- what is held is the same either way round, and from one to the next
same-sym : (g h : Held) → Same g h → Same h g
same-sym g h p =
    record {
      joined = λ o lt. sym (p.joined o lt);
      setting = λ o w lo lw. sym (p.setting o w lo lw);
      mark = λ o i lo li. sym (p.mark o i lo li);
      pot_rate = sym p.pot_rate;
      cap_rate = sym p.cap_rate;
      index = λ n lt. sym (p.index n lt);
      total = λ o y f lo ly lf. sym (p.total o y f lo ly lf);
    }

same-trans : (f g h : Held) → Same f g → Same g h → Same f h
same-trans f g h p q =
    record {
      joined = λ o lt. p.joined o lt ∙ q.joined o lt;
      setting = λ o w lo lw. p.setting o w lo lw ∙ q.setting o w lo lw;
      mark = λ o i lo li. p.mark o i lo li ∙ q.mark o i lo li;
      pot_rate = p.pot_rate ∙ q.pot_rate;
      cap_rate = p.cap_rate ∙ q.cap_rate;
      index = λ n lt. p.index n lt ∙ q.index n lt;
      total = λ o y x lo ly lf. p.total o y x lo ly lf ∙ q.total o y x lo ly lf;
    }

-- one call
module _ (kind : List Indicator) (b : Book) (h : History) (now : Agrees kind b h) (call : Call) where
  applied-as : apply kind b call ≡ outcome_of b (changed kind b call) (note_answer kind h call)
  unfolding apply note_answer
  applied-as = rw (same_answer kind (is_joined b) h.joined (figure_of b) (total h) now.held.joined now.held.total call) refl

  applied-answer : (apply kind b call).said ≡ note_answer kind h call
  unfolding outcome_of
  applied-answer = rw applied-as refl

  next : Agrees kind (apply kind b call).book (note_history kind h call)
  unfolding note_history note_answer outcome_of on_answer
  next = rw applied-as (go (note_answer kind h call) (decided kind h.joined (total h) call))
    where
      go : (answer : Said Acceptance) → Decided kind h.joined (total h) call answer
          → Agrees kind (on_answer (λ (number : ℕ). b) (λ (value : Acceptance). changed kind b call) answer)
          (on_answer (λ (number : ℕ). h) (λ (value : Acceptance). recorded kind h call) answer)
      go answer (inl (e, passed)) = rw e (changed-agrees kind b h now call passed)
      go answer (inr (number, e)) = rw e now

-- a history that holds what a book holds
noted : Book → History
noted b = history (is_joined b) (setting_of b) (is_marked b) b.pot_rate b.cap_rate (index_of b) (figure_of b) (λ operator year figure. 0)

noted-agrees : (kind : List Indicator) (b : Book) → in_range kind b ≡ true → Agrees kind b (noted b)
unfolding noted total
noted-agrees kind b ranged =
    record {
      ranged = to-ranged kind b ranged;
      held =
          record {
            joined = λ o lt. refl;
            setting = λ o w lo lw. refl;
            mark = λ o i lo li. refl;
            pot_rate = refl;
            cap_rate = refl;
            index = λ n lt. refl;
            total = λ o y f lo ly lf. omega arith;
          };
      covered = λ o y f. omega arith;
    }

pub stays : (kind : List Indicator) (b : Book) (call : Call) → StaysInRange kind b call
stays kind b call ranged = within_range kind _ (next kind b (noted b) (noted-agrees kind b ranged) call).ranged

-- the same of a call on any book, and of a list of calls
pub filed-applied : (kind : List Indicator) (b : Book) (call : Call) → in_range kind b ≡ true → file_as kind b call ≡ apply kind b call
unfolding file_as
filed-applied kind b call ranged = rw ranged refl

pub filed-stays : (kind : List Indicator) (b : Book) (call : Call) → in_range kind b ≡ true → in_range kind (file_as kind b call).book ≡ true
filed-stays kind b call ranged = rw (filed-applied kind b call ranged) (stays kind b call ranged)

pub all_stay : (kind : List Indicator) (calls : List Call) (b : Book) → in_range kind b ≡ true → in_range kind (filed_book kind b calls) ≡ true
unfolding filed_book
all_stay kind [] b ranged = ranged
all_stay kind (call ∷ rest) b ranged = all_stay kind rest (file_as kind b call).book (filed-stays kind b call ranged)

-- a list of calls
kept_from : (kind : List Indicator) (calls : List Call) (b : Book) (h : History) → Agrees kind b h
    → (filed_answers kind b calls ≡ noted_answers kind h calls) × Agrees kind (filed_book kind b calls) (noted_history kind h calls)
unfolding filed_answers noted_answers filed_book noted_history
kept_from kind [] b h now = (refl, now)
kept_from kind (call ∷ rest) b h now =
    let filed = filed-applied kind b call (within_range kind b now.ranged) in
    let later = kept_from kind rest (apply kind b call).book (note_history kind h call) (next kind b h now call) in
    rw filed (ap₂ ◌∷◌ (applied-answer kind b h now call) later.0, later.1)

-- its limits are found by testing each of its values; it has nothing that a kind might not take
fresh-ranged : (kind : List Indicator) → Ranged kind fresh_book
unfolding book-opened
fresh-ranged kind =
    record {
      bounds = bounded fresh_book refl;
      marks = λ i li none. get_or-replicate {A = ℕ} indicator_count i 0 0 li;
      settings = λ o w lo lw none. get_or-replicate {A = ℕ} setting_places (setting_slot o w) 0 0 (setting-slot-lt o w lo lw);
      figures = λ o y f lo ly lf none. get_or-replicate {A = ℕ} figure_places (figure_slot o y f) 0 0 (figure-slot-lt o y f lo ly lf);
    }

pub fresh-in-range : (kind : List Indicator) → in_range kind fresh_book ≡ true
fresh-in-range kind = within_range kind fresh_book (fresh-ranged kind)

fresh : (kind : List Indicator) → Agrees kind fresh_book plain
unfolding fresh_book plain is_joined is_marked setting_of figure_of index_of total
fresh kind =
    record {
      ranged = fresh-ranged kind;
      held =
          record {
            joined = λ o lt. has-zero o;
            setting = λ o w lo lw. get_or-replicate {A = ℕ} setting_places (setting_slot o w) 0 0 (setting-slot-lt o w lo lw);
            mark = λ o i lo li. rw (get_or-replicate {A = ℕ} indicator_count i 0 0 li) (has-zero o);
            pot_rate = refl;
            cap_rate = refl;
            index = λ n lt. get_or-replicate {A = ℕ} index_count n fresh_index 0 lt;
            total = λ o y f lo ly lf. get_or-replicate {A = ℕ} figure_places (figure_slot o y f) 0 0 (figure-slot-lt o y f lo ly lf);
          };
      covered = λ o y f. omega arith;
    }

agree : (kind : List Indicator) (calls : List Call) → Agrees kind (book_of kind calls) (history_of kind calls)
agree kind calls = (kept_from kind calls fresh_book plain (fresh kind)).1

pub kept : (kind : List Indicator) (calls : List Call) → Kept kind calls
kept kind calls =
    record {
      answers = (kept_from kind calls fresh_book plain (fresh kind)).0;
      held = (agree kind calls).held;
      covered = (agree kind calls).covered;
      within_range = within_range kind (book_of kind calls) (agree kind calls).ranged;
    }

pub equal_as_histories : (kind : List Indicator) (calls others : List Call) → EqualAsHistories kind calls others
equal_as_histories kind calls others =
    let one : Same (held_by (book_of kind calls)) (held_in (history_of kind calls)) = (agree kind calls).held in
    let two : Same (held_by (book_of kind others)) (held_in (history_of kind others)) = (agree kind others).held in (
      (λ e. same-trans _ (held_by (book_of kind others)) _ (same-sym _ _ (rw e at one)) two),
      (λ same.
          same_books _ _ (agree kind calls).ranged.bounds (agree kind others).ranged.bounds
          (same-trans _ (held_in (history_of kind calls)) _ one (same-trans _ (held_in (history_of kind others)) _ same (same-sym _ _ two)))),
    )
