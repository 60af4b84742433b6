-- A number's digits stored from the last to the first.
-- Assumes nothing.
use Prim.Native.Nat.{ℕ, ◌+◌, ◌-◌, ◌/◌, ◌%◌, ◌≤◌, ◌<◌}
use mathlib.Core.Path.{◌≡◌, sym, ap, ◌∙◌}
use mathlib.Core.List.{List, [], ◌∷◌, ◌++◌, append-nil}
use native.Mathlib.Omega.{arith}
use lib.ListN.{length, set, length-append}
use lib.Seq.{append_snoc}
use Rattle.text.specs.Text.{decimal}
use Rattle.text.specs.Steps.{with_text_at}
use Rattle.text.proofs.WrittenLaws.{put-nothing, byte-before}
use Rattle.text.proofs.DigitLaws.{decimal-small, decimal-large, some-digit, one-digit, many-digits}

-- those stored so far, and the number whose digits, so many, come before them
pub record Storing (old : List ℕ) (at n : ℕ) (new : List ℕ) (rest left : ℕ) : Type 0 where
  pub text : List ℕ
  pub parts : decimal rest ++ text ≡ decimal n
  pub counted : left ≡ length (decimal rest)
  pub bytes : new ≡ with_text_at old (at + left) text
  pub room : at + length (decimal n) ≤ length old

module _ {old : List ℕ} {at n : ℕ} where
  pub storing-none : at + length (decimal n) ≤ length old → Storing old at n old n (length (decimal n))
  storing-none room =
      record { text = []; parts = append-nil (decimal n); counted = omega arith; bytes = (put-nothing old (at + length (decimal n))).0; room = room }

  module _ {new : List ℕ} {rest left : ℕ} (storing : Storing old at n new rest left) where
    pub storing-room : (1 ≤ left) × (at + left ≤ length old)
    storing-room = (
      omega (arith, storing.counted, some-digit rest),
      omega (arith, storing.room, storing.counted, length-append (decimal rest) storing.text, ap length storing.parts),
    )

    pub storing-more : 2 ≤ left → Storing old at n (set new (at + (left - 1)) (48 + rest % 10)) (rest / 10) (left - 1)
    storing-more more =
        let digit : ℕ = 48 + rest % 10 in
        let large = decimal-large rest (many-digits rest (omega (arith, more, storing.counted))) in
        let place : at + left ≡ at + (left - 1) + 1 = omega (arith, storing-room.0) in
        record {
          text = digit ∷ storing.text;
          parts = sym (append_snoc (decimal (rest / 10)) digit storing.text) ∙ ap (λ (l : List ℕ). l ++ storing.text) (sym large) ∙ storing.parts;
          counted = omega (arith, storing.counted, ap length large, length-append (decimal (rest / 10)) (digit ∷ []));
          bytes = rw (storing.bytes, place) (byte-before old (at + (left - 1)) digit storing.text (omega (arith, storing-room.0, storing-room.1)));
          room = storing.room;
        }

    pub last-digit : left ≤ 1 → rest < 10
    last-digit last = one-digit rest (omega (arith, last, storing.counted))

    pub storing-last : left ≤ 1 → set new at (48 + rest) ≡ with_text_at old at (decimal n)
    storing-last last =
        let small = decimal-small rest (last-digit last) in
        let one : left ≡ 1 = omega (arith, storing.counted, ap length small) in
        rw (storing.bytes, one) (byte-before old at (48 + rest) storing.text (omega (arith, storing-room.1, one)))
        ∙ ap (with_text_at old at) (ap (λ (l : List ℕ). l ++ storing.text) (sym small) ∙ storing.parts)
