-- Decoding an encoded call gives the call (specs/Encoding.antt).
-- Assumes nothing.
use Prim.Native.Nat.{ℕ, zero, suc, ◌+◌, ◌*◌, ◌-◌, ◌/◌, ◌%◌, ◌^◌, ◌≤◌, ◌<◌}
use mathlib.Core.Path.{◌≡◌, refl, sym, ap, ◌∙◌}
use mathlib.Core.Bool.{true, false}
use mathlib.Core.List.{List, [], ◌∷◌, ◌++◌, append_assoc}
use native.Mathlib.Nat.{pow-suc, div-add-mod', div-eq_of_lt, div-div-eq-div-mul, div-one}
use native.Mathlib.Omega.{arith}
use lib.Dec.{ltb, lit<}
use lib.IntN.{ℤ, pos, negsuc}
use lib.ListN.{length, get_or, take, drop, length-append}
use lib.Seq.{take-append_seam, drop-append-add, get_or-append_seam}
use borrow.Author.Tests.{lt-ltb, le-ltb}
use Rattle.calls.specs.declared.Call.{Call}
use Rattle.calls.specs.declared.Call.TheVariants.{Join, Setting, Interruption, Amount, Mark, Rates, Index}
use Rattle.calls.specs.Indicators.{Indicator}
use Rattle.calls.specs.Call.{facts_of}
use Rattle.calls.specs.Answers.{accepted}
use Rattle.contents.specs.Content.{big_endian, unsigned, twos_complement, signed, byte, tags, is_known, tagged}
use Rattle.fields.specs.Field.{size_at, call_then, has_tag, field_in}
use Rattle.fields.specs.Encoding.{in_bytes, bits_of, field_of, encoded, FitsSigned, FitsBytes, Decodes}
use Rattle.fields.proofs.FieldLaws.{filed}

pub bytes-length : (width number : ℕ) → length (in_bytes width number) ≡ width
unfolding in_bytes
bytes-length zero number = refl
bytes-length (suc width) number = ap suc (bytes-length width number)

-- what the bytes of a number denote, and what they leave out
bytes-leave : (width number : ℕ) → big_endian (in_bytes width number) + number / 256 ^ width * 256 ^ width ≡ number
unfolding in_bytes big_endian
bytes-leave zero number = rw div-one (omega arith)
bytes-leave (suc width) number =
    let power : ℕ = 256 ^ width in
    let quotient : ℕ = number / power in
    let next : number / 256 ^ suc width ≡ quotient / 256 = ap (λ (n : ℕ). number / n) (pow-suc 256 width) ∙ sym (div-div-eq-div-mul number power 256) in
    let split : quotient * power ≡ (quotient / 256 * 256 + quotient % 256) * power = ap (λ (n : ℕ). n * power) (sym (div-add-mod' quotient 256)) in
    rw (bytes-length width number, next, pow-suc 256 width) (omega (arith, split, bytes-leave width number))

pub bytes-denote : (width number : ℕ) → number < 256 ^ width → big_endian (in_bytes width number) ≡ number
bytes-denote width number lt = omega (arith, bytes-leave width number, ap (λ (n : ℕ). n * 256 ^ width) (div-eq_of_lt lt))

-- bits denote their number
bits-denote : (number : ℤ) → FitsSigned number → twos_complement (bits_of number) ≡ number
unfolding twos_complement bits_of
bits-denote (pos n) lt = rw (lt-ltb n (2 ^ 63) lt) refl
bits-denote (negsuc n) lt =
    let high : ltb (2 ^ 64 - 1 - n) (2 ^ 63) ≡ false = le-ltb (2 ^ 64 - 1 - n) (2 ^ 63) (omega arith) in
    let below : ltb (2 ^ 64 - 1 - n) (2 ^ 64) ≡ true = lt-ltb (2 ^ 64 - 1 - n) (2 ^ 64) (omega arith) in
    let same : 2 ^ 64 - suc (2 ^ 64 - 1 - n) ≡ n = omega arith in
    rw (high, below, same) refl

bits_fit : (number : ℤ) → FitsSigned number → bits_of number < 256 ^ 8
unfolding bits_of
bits_fit (pos n) lt = omega arith
bits_fit (negsuc n) lt = omega arith

-- a field wherever it stands: its tag, its length and its content are found
module _ (before content after : List ℕ) (tag : ℕ) where
  abbrev whole : List ℕ
  whole = before ++ field_of tag content ++ after

  abbrev here : ℕ
  here = length before

  -- the filing from the field on
  from-here : (n : ℕ) → drop (here + n) whole ≡ drop n (field_of tag content ++ after)
  from-here n = ap (drop (here + n)) (append_assoc before (field_of tag content) after) ∙ drop-append-add before (field_of tag content ++ after) n

  tag-found : byte whole here ≡ tag
  unfolding field_of
  tag-found = ap (λ (l : List ℕ). get_or l here 0) (append_assoc before (field_of tag content) after) ∙ get_or-append_seam before tag _ 0

  size-found : length content < 256 ^ 2 → size_at whole here ≡ length content
  unfolding unsigned field_of in_bytes
  size-found lt = rw (from-here 1) (bytes-denote 2 (length content) lt)

  content-found : take (length content) (drop (here + 3) whole) ≡ content
  unfolding field_of in_bytes
  content-found = rw (from-here 3) (take-append_seam content after)

  field-length : length (field_of tag content) ≡ 3 + length content
  unfolding field_of in_bytes
  field-length = omega arith

  whole_length : length whole ≡ here + (3 + length content) + length after
  whole_length = rw (length-append (before ++ field_of tag content) after, length-append before (field_of tag content), field-length) refl

  pub field_found : (kind : List Indicator) → has_tag kind tag ≡ true → length content ≡ (tagged tag).size → length content < 256 ^ 2
      → field_in kind whole here ≡ accepted (call_then ((tagged tag).call content) (here + length (field_of tag content)))
  field_found kind known sized lt =
      let more : here < length whole = omega (arith, whole_length) in
      let enough : 3 ≤ length whole - here = omega (arith, whole_length) in
      let within : size_at whole here ≤ length whole - here - 3 = rw (size-found lt) (omega (arith, whole_length)) in
      let same : size_at whole here ≡ (tagged (byte whole here)).size = rw (size-found lt, tag-found) sized in
      let next : here + 3 + length content ≡ here + length (field_of tag content) = omega (arith, field-length) in
      filed kind whole here more enough within (rw tag-found known) same
      ∙ rw (tag-found, size-found lt, content-found, next) refl

-- the content of each tag gives its call back
pub decodes : (kind : List Indicator) (call : Call) → (facts_of kind call).known ≡ true → FitsBytes call → Decodes kind call
unfolding facts_of encoded has_tag is_known tagged tags unsigned signed in_bytes
decodes kind (Join operator) had fits before after = field_found before (operator ∷ []) after 1 kind refl refl (lit< tt)
decodes kind (Setting operator which value) had fits before after =
    field_found before (operator ∷ which ∷ in_bytes 8 value) after 2 kind refl refl (lit< tt)
    ∙ rw (bytes-denote 8 value fits) refl
decodes kind (Interruption operator sign level cause start end weight) had fits before after =
    field_found before (operator ∷ sign ∷ level ∷ cause ∷ in_bytes 8 (bits_of start) ++ in_bytes 8 (bits_of end) ++ in_bytes 4 weight) after 3 kind had refl (lit< tt)
    ∙ rw (
      bytes-denote 8 (bits_of start) (bits_fit start fits.0),
      bytes-denote 8 (bits_of end) (bits_fit end fits.1),
      bytes-denote 4 weight fits.2,
      bits-denote start fits.0,
      bits-denote end fits.1,
    )
    refl
decodes kind (Amount operator year figure sign value) had fits before after =
    field_found before (operator ∷ year ∷ figure ∷ sign ∷ in_bytes 8 value) after 4 kind refl refl (lit< tt)
    ∙ rw (bytes-denote 8 value fits) refl
decodes kind (Mark operator indicator mark) had fits before after = field_found before (operator ∷ indicator ∷ mark ∷ []) after 5 kind refl refl (lit< tt)
decodes kind (Rates pot cap) had fits before after =
    field_found before (in_bytes 4 pot ++ in_bytes 4 cap) after 6 kind refl refl (lit< tt)
    ∙ rw (bytes-denote 4 pot fits.0, bytes-denote 4 cap fits.1) refl
decodes kind (Index number value) had fits before after =
    field_found before (number ∷ in_bytes 4 value) after 7 kind refl refl (lit< tt)
    ∙ rw (bytes-denote 4 value fits) refl
