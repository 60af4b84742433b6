-- A text that fits a buffer or does not: the answer, which is told apart, and what the buffer holds afterwards.
-- Assumes nothing.
use Prim.Native.Nat.{ℕ, ◌≤◌, ◌<◌}
use mathlib.Core.Path.{◌≡◌, refl, ap}
use mathlib.Core.List.{List}
use native.Mathlib.Nat.{zero-add}
use lib.ListN.{length, take}
use lib.Seq.{take-append_seam}
use borrow.Author.Tests.{lt-ltb, le-ltb}
use Rattle.calls.specs.Answers.{refused_by, accepted, on_answer, first_of, number_of}
use Rattle.calls.specs.Laws.{ToldApart}
use Rattle.calls.proofs.SaidLaws.{numbers_apart}
use Rattle.std.specs.Prelude.{Ok, Err}
use Rattle.text.specs.Buffer.{too_short, filled_said, put_into, buffer_after, fitting}
use Rattle.text.specs.Steps.{with_text_at}

pub fillings-apart : ToldApart filled_said
fillings-apart (Ok count) (Ok other) same = cc
fillings-apart (Ok count) (Err refusal) same = cc
fillings-apart (Err refusal) (Ok count) same = cc
fillings-apart (Err refusal) (Err other) same =
    let number : number_of refusal ≡ number_of other = cc in
    ap Err (numbers_apart refusal other number)

-- a text put at the front, and the front of what holds it
pub written-front : (buffer text : List ℕ) → with_text_at buffer 0 text ≡ put_into buffer text
unfolding with_text_at put_into
written-front buffer text = rw (zero-add (length text)) refl

pub take-front : (old text : List ℕ) → take (length text) (with_text_at old 0 text) ≡ text
unfolding with_text_at
take-front old text = take-append_seam text _

module _ (buffer text : List ℕ) where
  pub too_short_lem : length buffer < length text
      → (refused_by 13 ≡ fitting buffer text) × (buffer ≡ buffer_after buffer text (fitting buffer text))
  unfolding fitting too_short buffer_after first_of on_answer
  too_short_lem short = rw (lt-ltb (length buffer) (length text) short) (refl, refl)

  pub fits : length text ≤ length buffer
      → (accepted (length text) ≡ fitting buffer text) × (put_into buffer text ≡ buffer_after buffer text (fitting buffer text))
  unfolding fitting too_short buffer_after first_of on_answer
  fits enough = rw (le-ltb (length buffer) (length text) enough) (refl, refl)
