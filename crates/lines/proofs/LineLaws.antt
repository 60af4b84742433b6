-- The parts of lines as the code puts them.
-- Assumes nothing.
use Prim.Native.Nat.{ℕ, zero, suc, ◌+◌, ◌≤◌, ◌<◌}
use mathlib.Core.Path.{◌≡◌, refl}
use mathlib.Core.Bool.{cond}
use mathlib.Core.List.{List, [], ◌∷◌, ◌++◌}
use native.Mathlib.Numerals.{add-one}
use native.Mathlib.Omega.{arith}
use native.Mathlib.Decide.{ℕ_discrete}
use lib.IntN.{pos}
use lib.ListN.{length, get_or, length-append}
use Rattle.book.specs.declared.Book.{Book}
use Rattle.book.specs.Book.{is_joined}
use Rattle.apportion.specs.Sum.{sum}
use Rattle.settlement.specs.declared.Settlement.{Settlement}
use Rattle.money.specs.Money.{sumℤ}
use Rattle.text.specs.Text.{bytes_of, decimal}
use Rattle.columns.specs.declared.Row.{Row}
use Rattle.columns.specs.Columns.{columns_of, points_of_operator}
use Rattle.columns.proofs.ColumnLaws.{line-named}
use Rattle.lines.specs.Lines.{operator_line, operator_lines, last_line}

module _ (s : Settlement) where
  abbrev pub operator_row : ℕ → Row
  operator_row operator =
      record { points = points_of_operator s operator; paid = get_or s.contributions operator 0; received = get_or s.returns operator 0; adjustment = get_or s.adjustments operator (pos 0) }

  pub operator-parts : (operator : ℕ) → operator_line s operator ≡ decimal operator ++ columns_of (operator_row operator)
  unfolding operator_line
  operator-parts operator = line-named (decimal operator) (operator_row operator)

  abbrev pub last_row : Row
  last_row = record { points = sum s.points; paid = sum s.contributions; received = sum s.returns; adjustment = pos 0 }

  pub last-parts : sumℤ s.adjustments ≡ pos 0 → last_line s ≡ (97 ∷ 108 ∷ 108 ∷ []) ++ columns_of last_row
  unfolding last_line bytes_of
  last-parts cancel = rw cancel (line-named (97 ∷ 108 ∷ 108 ∷ []) last_row)

module _ (b : Book) (s : Settlement) where
  -- what one operator more adds
  abbrev pub addition : ℕ → List ℕ
  addition operator = cond (is_joined b operator) (operator_line s operator) []

  pub lines_more : (n : ℕ) → operator_lines b s (n + 1) ≡ operator_lines b s n ++ addition n
  unfolding operator_lines
  lines_more n = rw add-one refl

  -- fewer operators' lines are no longer
  lines-le : (n m : ℕ) → n ≤ m → length (operator_lines b s n) ≤ length (operator_lines b s m)
  unfolding operator_lines
  lines-le n zero le = let none : n ≡ 0 = omega arith in rw none (omega arith)
  lines-le n (suc m) le = go (ℕ_discrete n (suc m)) (lines-le n m)
    where
      go : Dec (n ≡ suc m) → (n ≤ m → length (operator_lines b s n) ≤ length (operator_lines b s m))
          → length (operator_lines b s n) ≤ length (operator_lines b s m ++ addition m)
      go (yes same) before = rw same (omega arith)
      go (no other) before = omega (arith, before (omega (arith, other)), length-append (operator_lines b s m) (addition m))

  pub lines-within : (n : ℕ) → n < 16 → length (operator_lines b s n ++ addition n) ≤ length (operator_lines b s 16)
  lines-within n lt = rw lines_more at (lines-le (n + 1) 16 (omega arith))
