-- The printed settlement: its lines as bytes (01, "The printed settlement").
-- Assumes nothing.
use Rattle.std.specs.Prelude.{ℕ, zero, suc, ◌+◌, ◌^◌, ◌≤◌, ◌<◌, ◌≡◌, cond, List, [], ◌++◌, pos, nat_abs, length, get_or}
use Rattle.calls.specs.Limits.{operators}
use Rattle.book.specs.declared.Book.{Book}
use Rattle.book.specs.Book.{is_joined}
use Rattle.apportion.specs.Sum.{sum}
use Rattle.settlement.specs.declared.Settlement.{Settlement}
use Rattle.money.specs.Money.{sumℤ}
use Rattle.text.specs.Text.{bytes_of, decimal}
use Rattle.columns.specs.Columns.{line, number_line, points_of_operator}

unfoldable pub header : List ℕ
header = line (bytes_of "operator") (bytes_of "points") (bytes_of "out") (bytes_of "in") (bytes_of "adjustment")

-- "in" and "out" before the limit
unfoldable pub operator_line : Settlement → ℕ → List ℕ
operator_line s operator =
    number_line (decimal operator) (points_of_operator s operator) (get_or s.contributions operator 0) (get_or s.returns operator 0)
    (get_or s.adjustments operator (pos 0))

-- "joined operators rising": those below n
unfoldable pub operator_lines : Book → Settlement → ℕ → List ℕ
operator_lines b s zero = []
operator_lines b s (suc n) = operator_lines b s n ++ cond (is_joined b n) (operator_line s n) []

-- "the last line sums"
unfoldable pub last_line : Settlement → List ℕ
last_line s = number_line (bytes_of "all") (sum s.points) (sum s.contributions) (sum s.returns) (sumℤ s.adjustments)

unfoldable pub printed : Book → Settlement → List ℕ
printed b s = header ++ operator_lines b s operators ++ last_line s

-- a settlement that inner functions print: sums and sizes stay within a machine's numbers, and adjustments cancel
pub record Printable (s : Settlement) : Type 0 where
  pub points_few : sum s.points < 2 ^ 60
  pub contributions_few : sum s.contributions < 2 ^ 60
  pub returns_few : sum s.returns < 2 ^ 60
  pub adjustments_small : (operator : ℕ) → operator < operators → nat_abs (get_or s.adjustments operator (pos 0)) < 2 ^ 60
  pub adjustments_cancel : sumℤ s.adjustments ≡ pos 0

-- what the functions that put an operator's line ask
pub record LineFits (s : Settlement) (operator at : ℕ) (text out : List ℕ) : Type 0 where
  pub printable : Printable s
  pub known : operator < operators
  pub room : at + length text ≤ length out
