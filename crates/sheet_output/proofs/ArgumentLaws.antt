-- The digits of an argument; and that each number of one byte, written in digits, is read as itself.
-- Assumes nothing.
use Prim.Native.Nat.{ℕ, ◌-◌, ◌<◌}
use mathlib.Core.Path.{◌≡◌, refl, ap}
use mathlib.Core.Bool.{Bool, true, false, cond}
use native.Mathlib.Omega.{arith}
use lib.Dec.{eqb}
use borrow.Author.Tests.{lt-leb, le-leb, eqb-true}
use Rattle.book.specs.Book.{every}
use Rattle.book.proofs.EveryLaws.{each-of-every}
use Rattle.text.specs.Text.{decimal}
use Rattle.text.proofs.Opened.{text-opened}
use Rattle.std.specs.Prelude.{Option, Some, None, Result, Ok, Err, OkIff}
use Rattle.std.specs.Result.{result_ok}
use Rattle.sheet_output.specs.Argument.{is_digit, value_of, of_digits, argument_of, ReadBack}

-- what a digit's answer tells
module _ (byte : ℕ) where
  pub no-digit : None ≡ cond (is_digit byte) (Some (byte - 48)) None → is_digit byte ≡ false
  no-digit none = go (is_digit byte) none
    where
      go : (digit : Bool) → None ≡ cond digit (Some (byte - 48)) None → digit ≡ false
      go true none = cc
      go false none = refl

  pub a-digit : {given : ℕ} → Some given ≡ cond (is_digit byte) (Some (byte - 48)) None → is_digit byte ≡ true
  a-digit {given} some = go (is_digit byte) some
    where
      go : (digit : Bool) → Some given ≡ cond digit (Some (byte - 48)) None → digit ≡ true
      go true some = refl
      go false some = cc

  pub digit-given : {given : ℕ} → Some given ≡ cond (is_digit byte) (Some (byte - 48)) None → given ≡ byte - 48
  digit-given {given} some = go (is_digit byte) some
    where
      go : (digit : Bool) → Some given ≡ cond digit (Some (byte - 48)) None → given ≡ byte - 48
      go true some = cc
      go false some = cc

-- three digits, and their value where it is small
pub value-read : {E : Type 0} (hundreds tens ones : ℕ) → is_digit hundreds ≡ true → is_digit tens ≡ true → is_digit ones ≡ true
    → (read : Result ℕ E) → OkIff read (value_of hundreds tens ones < 256) (value_of hundreds tens ones) → result_ok read ≡ of_digits hundreds tens ones
unfolding of_digits
value-read hundreds tens ones h t o (Ok value) small = rw (h, t, o, le-leb (value_of hundreds tens ones) 255 (omega (arith, small.0))) (ap Some small.1)
value-read hundreds tens ones h t o (Err error) large =
    rw (h, t, o, lt-leb (value_of hundreds tens ones) 255 (not-lt (value_of hundreds tens ones) large)) refl
  where
    not-lt : (n : ℕ) → (n < 256 → ⊥) → 255 < n
    not-lt n other = omega (arith, other)

-- the number that an argument is, 256 for what is none
abbrev number_or_256 : Option ℕ → ℕ
number_or_256 (Some n) = n
number_or_256 None = 256

-- one computed test for all of them
each_read : every 256 (λ (n : ℕ). eqb (number_or_256 (argument_of (decimal n))) n) ≡ true
unfolding text-opened argument_of of_digits is_digit value_of every
each_read = refl

pub read_back : (n : ℕ) → n < 256 → ReadBack n
read_back n lt = go (argument_of (decimal n)) (eqb-true _ n (each-of-every 256 (λ (n : ℕ). eqb (number_or_256 (argument_of (decimal n))) n) each_read n lt))
  where
    go : (argument : Option ℕ) → number_or_256 argument ≡ n → argument ≡ Some n
    go (Some m) same = ap Some same
    go None same = absurd (omega (arith, same, lt))
