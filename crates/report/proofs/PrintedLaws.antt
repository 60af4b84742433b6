-- How long the printed settlement is, and that a book that settles can be printed.
-- Assumes nothing.
use Prim.Native.Nat.{ℕ, zero, suc, ◌+◌, ◌*◌, ◌^◌, ◌≤◌, ◌<◌}
use mathlib.Core.Path.{◌≡◌, refl}
use mathlib.Core.Bool.{Bool, true, false, cond}
use mathlib.Core.List.{List, [], ◌++◌}
use native.Mathlib.Nat.{suc-mul}
use native.Mathlib.Omega.{arith}
use lib.IntN.{pos}
use lib.ListN.{length, get_or, length-append}
use Rattle.calls.specs.Answers.{accepted, yes_said}
use Rattle.book.specs.declared.Book.{Book}
use Rattle.book.specs.Book.{is_joined, within_limits}
use Rattle.apportion.specs.Sum.{sum}
use Rattle.apportion.proofs.Sums.{sum-append, sum_bound, element-le}
use Rattle.calls.specs.declared.Kind.{Kind}
use Rattle.calls.specs.Indicators.{indicators_of}
use Rattle.indicators.specs.Points.{points_numbered, rows, points_of_all}
use Rattle.indicators.proofs.NumberLaws.{numbered-length}
use Rattle.settlement.specs.declared.Settlement.{Settlement}
use Rattle.settlement.specs.Settlement.{settlement_by, settled_by}
use Rattle.settlement.specs.Laws.{Settles, Balanced}
use Rattle.calls.specs.Limits.{operators, indicator_count}
use Rattle.values.specs.Bounds.{pool_most}
use Rattle.money.proofs.Amounts.{pot_bounded, limit-most}
use Rattle.gathering.proofs.Gathering.{numbered-le}
use Rattle.settlement.proofs.SettledLaws.{worth-kind, settles-exactly, settles-within, settled-so, balanced-if-settles}
use Rattle.text.specs.Text.{bytes_of, decimal}
use Rattle.columns.specs.Columns.{line, points_of_operator}
use Rattle.lines.specs.Lines.{header, operator_line, operator_lines, last_line, printed}
use Rattle.report.specs.Report.{text_as}
use Rattle.lines.specs.Lines.{Printable}
use Rattle.text.proofs.DigitLaws.{decimal-length, signed-length}
use Rattle.columns.proofs.SumLaws.{points-most}

line-length : (name points out received adjustment : List ℕ)
    → length (line name points out received adjustment) ≡ length name + length points + length out + length received + length adjustment + 5
unfolding line
line-length name points out received adjustment = simp length-append (omega arith)

-- a number of the machine
number-length : (n : ℕ) → n < 2 ^ 64 → length (decimal n) ≤ 20
number-length n lt = decimal-length 19 n (omega arith)

header-length : length header ≡ 34
unfolding header line bytes_of
header-length = refl

module _ (b : Book) (s : Settlement) (printable : Printable s) where
  operator-length : (operator : ℕ) → operator < 16 → length (operator_line s operator) ≤ 88
  unfolding operator_line points_of_operator
  operator-length operator lt =
      rw line-length
      (omega (
        arith,
        decimal-length 1 operator (omega arith),
        number-length (points_of_operator s operator) (omega (arith, points-most s.points operator printable.points_few)),
        number-length (get_or s.contributions operator 0) (omega (arith, element-le s.contributions operator, printable.contributions_few)),
        number-length (get_or s.returns operator 0) (omega (arith, element-le s.returns operator, printable.returns_few)),
        signed-length (get_or s.adjustments operator (pos 0)) (omega (arith, printable.adjustments_small operator lt)),
      ))

  operators-length : (n : ℕ) → n ≤ 16 → length (operator_lines b s n) ≤ n * 88
  unfolding operator_lines
  operators-length zero le = omega arith
  operators-length (suc n) le =
      let before = operators-length n (omega arith) in
      rw (length-append, suc-mul) (omega (arith, before, go (is_joined b n)))
    where
      go : (t : Bool) → length (cond t (operator_line s n) []) ≤ 88
      go true = operator-length n (omega arith)
      go false = omega arith

  last-length : length (last_line s) ≤ 89
  unfolding last_line bytes_of
  last-length =
      rw (line-length, printable.adjustments_cancel)
      (omega (
        arith,
        number-length (sum s.points) (omega (arith, printable.points_few)),
        number-length (sum s.contributions) (omega (arith, printable.contributions_few)),
        number-length (sum s.returns) (omega (arith, printable.returns_few)),
        signed-length (pos 0) (omega arith),
      ))

  pub printed-length : length (printed b s) ≤ 2048
  unfolding printed
  printed-length =
      rw (length-append (header ++ operator_lines b s 16) (last_line s), length-append header (operator_lines b s 16))
      (omega (arith, header-length, operators-length 16 (omega arith), last-length))

-- the points of a kind stay below a bound
module _ (b : Book) (kind : Kind) where
  row-le : (number : ℕ) → number < indicator_count → sum (points_numbered b (indicators_of kind) number) ≤ operators * pool_most
  row-le number lt =
      rw (numbered-length b (indicators_of kind) number) at (sum_bound (points_numbered b (indicators_of kind) number) pool_most (λ k inside. numbered-le b kind number lt k))

  rows-le : (n : ℕ) → n ≤ indicator_count → sum (rows n (points_numbered b (indicators_of kind))) ≤ n * (operators * pool_most)
  unfolding rows sum
  rows-le zero le = omega arith
  rows-le (suc n) le = rw (sum-append, suc-mul) (omega (arith, rows-le n (omega arith), row-le n (omega arith)))

  module _ (accepted : (settled_by b (indicators_of kind)).said ≡ accepted yes_said) where
    settles : Settles b (indicators_of kind)
    settles = (settles-exactly b (indicators_of kind)).1 accepted

    within : within_limits b ≡ true
    within = settles-within b (indicators_of kind) settles

    balanced : Balanced b (settlement_by b (indicators_of kind))
    balanced = rw (settled-so b (indicators_of kind) settles) at (balanced-if-settles b (indicators_of kind) (worth-kind kind) settles)

    settlement-printable : Printable (settlement_by b (indicators_of kind))
    unfolding settlement_by points_of_all
    settlement-printable =
        record {
          points_few = omega (arith, rows-le indicator_count (omega arith));
          contributions_few = omega (arith, balanced.contributions_whole, pot_bounded b within);
          returns_few = omega (arith, balanced.returns_whole, pot_bounded b within);
          adjustments_small = λ operator lt. omega (arith, balanced.stays_within_limits operator lt, limit-most b within operator lt);
          adjustments_cancel = balanced.adjustments_cancel;
        }

    pub printable : Printable (settled_by b (indicators_of kind)).settlement
    printable = rw (settled-so b (indicators_of kind) settles) settlement-printable

    -- the text of a book that settles has its place in 2048 bytes
    pub text-fits : length (text_as (indicators_of kind) b) ≤ 2048
    unfolding text_as
    text-fits = printed-length b (settled_by b (indicators_of kind)).settlement printable
