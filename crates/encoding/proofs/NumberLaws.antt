-- A number's bytes stored from the last to the first.
-- Assumes nothing.
use Prim.Native.Nat.{ℕ, suc, ◌+◌, ◌/◌, ◌%◌, ◌^◌, ◌≤◌}
use mathlib.Core.Path.{◌≡◌, refl, sym, ◌∙◌}
use mathlib.Core.List.{List}
use native.Mathlib.Nat.{pow-suc, div-div-eq-div-mul, div-one}
use native.Mathlib.Omega.{arith}
use lib.ListN.{length, set}
use Rattle.text.specs.Steps.{with_text_at}
use Rattle.text.proofs.WrittenLaws.{put-nothing, byte-before}
use Rattle.fields.specs.Encoding.{in_bytes}

-- bytes stored so far: the last of the number, up to a place
pub record Storing (old : List ℕ) (at width number : ℕ) (new : List ℕ) (rest left : ℕ) : Type 0 where
  pub stored : ℕ
  pub counted : left + stored ≡ width
  pub bytes : new ≡ with_text_at old (at + left) (in_bytes stored number)
  pub remaining : rest ≡ number / 256 ^ stored
  pub room : at + width ≤ length old

module _ {old : List ℕ} {at width number : ℕ} where
  pub storing-none : at + width ≤ length old → Storing old at width number old number width
  unfolding in_bytes
  storing-none room =
      record { stored = 0; counted = omega arith; bytes = (put-nothing old (at + width)).0; remaining = sym (div-one number); room = room }

  pub storing-more : {new : List ℕ} {rest left : ℕ} (less : ℕ) → left ≡ less + 1 → Storing old at width number new rest left
      → Storing old at width number (set new (at + less) (rest % 256)) (rest / 256) less
  unfolding in_bytes
  storing-more {new} {rest} {left} less next storing =
      let k : ℕ = storing.stored in
      let place : at + left ≡ at + less + 1 = omega arith in
      record {
        stored = suc k;
        counted = omega (arith, storing.counted);
        bytes = rw (storing.bytes, storing.remaining, place) (byte-before old (at + less) (number / 256 ^ k % 256) (in_bytes k number) (omega (arith, storing.counted, storing.room)));
        remaining = rw (storing.remaining, pow-suc 256 k) (div-div-eq-div-mul number (256 ^ k) 256);
        room = storing.room;
      }

  pub storing-all : {new : List ℕ} {rest : ℕ} → Storing old at width number new rest 0 → new ≡ with_text_at old at (in_bytes width number)
  storing-all storing =
      let here : at + 0 ≡ at = omega arith in
      let all : storing.stored ≡ width = omega (arith, storing.counted) in
      storing.bytes ∙ rw (here, all) refl
