-- The line that tells of a refusal is in ASCII, so it is text.
-- Assumes nothing.
use Rattle.std.proofs.Common.{◌≡◌, ℕ, zero, suc, ◌+◌, ◌/◌, ◌%◌, Bool, true, false, cond, ltb, List, [], ◌∷◌, ◌++◌, length, take, refl, sym, ap, ◌∙◌, subst, arith, rules, Result, Ok, Err}
use borrow.Author.Tests.{ltb-true}
use lib.Seq.{take-append_seam}
use Rattle.std.specs.Result.{IsOk, MatchResult}
use Rattle.std.specs.Str.{IsAscii, IsUtf8}
use Rattle.std.proofs.lemmas.Str.{IsAscii-append, IsUtf8-from_ascii}
use Rattle.std.proofs.lemmas.Str.Ascii.{IsAscii-nil, IsAscii-cons, IsAscii-push}
use Rattle.calls.specs.Indicators.{Indicator}
use Rattle.calls.specs.Answers.{Said, refused_by, accepted, on_answer, Acceptance}
use Rattle.text.specs.Text.{bytes_of, digits, decimal}
use Rattle.text.specs.Buffer.{put_into}
use Rattle.output.specs.Output.{refused_by_number, refused_field}
use Rattle.rewriting.specs.declared.Stream.{Stream}
use Rattle.rewriting.specs.declared.Stream.TheVariants.{Output, Error}
use Rattle.rewriting.specs.Rewriting.{Printout, on_stream, written_or, printout_as, told_of}

-- a word's bytes, tested one by one
abbrev below_128 : List ℕ → Bool
below_128 [] = true
below_128 (byte ∷ rest) = cond (ltb byte 128) (below_128 rest) false

word : (bytes : List ℕ) → below_128 bytes ≡ true → IsAscii bytes
word [] is = IsAscii-nil
word (byte ∷ rest) is = go (ltb byte 128) refl is (word rest)
  where
    go : (t : Bool) → ltb byte 128 ≡ t → cond t (below_128 rest) false ≡ true → (below_128 rest ≡ true → IsAscii rest) → IsAscii (byte ∷ rest)
    go true low is after = IsAscii-cons byte rest (ltb-true byte 128 low) (after is)
    go false low is after = absurd (cc)

digits-ascii : (most n : ℕ) (small : Bool) → ltb n 10 ≡ small → IsAscii (digits most small n)
unfolding digits
digits-ascii zero n small is = IsAscii-nil
digits-ascii (suc most) n true is = IsAscii-cons (48 + n) [] (omega (arith, ltb-true n 10 is)) IsAscii-nil
digits-ascii (suc most) n false is =
    IsAscii-push (digits most (ltb (n / 10) 10) (n / 10)) (48 + n % 10) (digits-ascii most (n / 10) (ltb (n / 10) 10) refl) (omega arith)

decimal-ascii : (n : ℕ) → IsAscii (decimal n)
unfolding decimal
decimal-ascii n = digits-ascii (suc n) n (ltb n 10) refl

by_number-ascii : (number : ℕ) → IsAscii (refused_by_number number)
unfolding refused_by_number bytes_of
by_number-ascii number = IsAscii-append (bytes_of "refused ") (decimal number) (word (bytes_of "refused ") refl) (decimal-ascii number)

field-ascii : (number offset : ℕ) → IsAscii (refused_field number offset)
unfolding refused_field bytes_of
field-ascii number offset =
    IsAscii-append (refused_by_number number ++ bytes_of " at " ++ decimal offset) (bytes_of "\n")
    (IsAscii-append (refused_by_number number ++ bytes_of " at ") (decimal offset)
    (IsAscii-append (refused_by_number number) (bytes_of " at ") (by_number-ascii number) (word (bytes_of " at ") refl))
    (decimal-ascii offset))
    (word (bytes_of "\n") refl)

-- what goes to standard error is in ASCII
abbrev TellsAscii : Printout → Type 0
TellsAscii printout = printout.stream ≡ Error → IsAscii printout.text

by_answer : (said : Said Acceptance) (offset : ℕ) (text : List ℕ)
    → TellsAscii (on_answer (λ (number : ℕ). on_stream Error (refused_field number offset)) (λ (value : Acceptance). on_stream Output text) said)
unfolding on_answer
by_answer (refused_by number) offset text is = field-ascii number offset
by_answer (accepted value) offset text is = absurd (cc)

front : (old text : List ℕ) → take (length text) (put_into old text) ≡ text
unfolding put_into
front old text = take-append_seam text _

module _ (kind : List Indicator) where
  by_length : (long : Bool) (reached : _) → TellsAscii (cond long (on_stream Error (bytes_of "too long\n")) (written_or kind reached))
  unfolding written_or bytes_of
  by_length true reached is = word (bytes_of "too long\n") refl
  by_length false reached is = by_answer reached.said reached.offset _ is

  told-ascii : (filing : List ℕ) → TellsAscii (printout_as kind filing)
  unfolding printout_as
  told-ascii filing = by_length _ _

  -- the front of the buffer, where the program that rewrites puts such a line
  pub told-text : (filing old out : List ℕ) (stream : Stream) (count : ℕ) → (stream, count) ≡ told_of (printout_as kind filing) → out ≡ put_into old (printout_as kind filing).text
      → stream ≡ Error → IsUtf8 (take count out)
  told-text filing old out stream count told put is =
      let printout = printout_as kind filing in
      let same : take count out ≡ printout.text = rw (ap (λ (t : Stream × ℕ). t.1) told, put) (front old printout.text) in
      subst IsUtf8 (sym same) (IsUtf8-from_ascii printout.text (told-ascii filing (sym (ap (λ (t : Stream × ℕ). t.0) told) ∙ is)))

-- what is text is read as text
pub read-ok : {T E : Type 0} (read : Result T E) (P : T → Type 0) (Q : E → Type 0) (U : Type 0) → MatchResult read P (λ e. ¬ U × Q e) → U → IsOk read
read-ok (Ok value) P Q U cases text = search rules
read-ok (Err error) P Q U cases text = absurd (cases.0 text)
