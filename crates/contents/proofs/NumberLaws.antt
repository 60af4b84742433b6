-- Numbers of a filing: one byte more, a number inside a content, and bits read as a signed number.
-- Assumes nothing.
use Prim.Native.Nat.{ℕ, zero, suc, ◌+◌, ◌*◌, ◌-◌, ◌^◌, ◌≤◌, ◌<◌}
use mathlib.Core.Path.{◌≡◌, refl, sym, ap, ◌∙◌}
use mathlib.Core.List.{List, [], ◌∷◌, ◌++◌}
use native.Mathlib.Numerals.{add-one}
use native.Mathlib.Nat.{pow-suc, pow-le-pow_right, add-zero}
use native.Mathlib.Omega.{arith}
use lib.ListN.{length, get_or, take, drop, length-append, length-drop, length-take}
use lib.Seq.{take-suc, take-take, drop-drop, get_or-take, get_or-drop}
use borrow.Author.Tests.{lt-ltb}
use mir.Syntax.{w32, w64}
use mir.Val.{to_z}
use Rattle.std.specs.Int.{from_be_bytes}
use Rattle.contents.specs.Content.{big_endian, unsigned, twos_complement, signed}

big-endian-more : (bytes : List ℕ) (last : ℕ) → big_endian (bytes ++ (last ∷ [])) ≡ big_endian bytes * 256 + last
unfolding big_endian
big-endian-more [] last = omega arith
big-endian-more (byte ∷ rest) last =
    let longer : length (rest ++ (last ∷ [])) ≡ suc (length rest) = rw length-append (omega arith) in
    let power : 256 ^ length (rest ++ (last ∷ [])) ≡ 256 ^ length rest * 256 = ap (λ (n : ℕ). 256 ^ n) longer ∙ pow-suc 256 (length rest) in
    omega (arith, ap (λ (n : ℕ). byte * n) power, big-endian-more rest last)

-- one byte more
pub unsigned-more : (bytes : List ℕ) (at done : ℕ) → at + done < length bytes
    → unsigned (done + 1) bytes at ≡ unsigned done bytes at * 256 + get_or bytes (at + done) 0
unfolding unsigned
unsigned-more bytes at done lt =
    let within : done < length (drop at bytes) = rw length-drop (omega arith) in
    rw (add-one done, take-suc (drop at bytes) done 0 within, big-endian-more, get_or-drop) refl

-- a number by its first bytes and the others
unsigned-split : (bytes : List ℕ) (at done more : ℕ) → at + done + more ≤ length bytes
    → unsigned (done + more) bytes at ≡ unsigned done bytes at * 256 ^ more + unsigned more bytes (at + done)
unfolding unsigned big_endian
unsigned-split bytes at done zero le = rw (add-zero done) (omega arith)
unsigned-split bytes at done (suc more) le =
    let first : ℕ = unsigned done bytes at in
    let longer : done + suc more ≡ done + more + 1 = omega arith in
    let power : first * 256 ^ suc more ≡ first * (256 ^ more * 256) = ap (λ (n : ℕ). first * n) (pow-suc 256 more) in
    let place : at + (done + more) ≡ at + done + more = omega arith in
    let whole = unsigned-more bytes at (done + more) (omega arith) in
    let rest = rw (add-one more) at (unsigned-more bytes (at + done) more (omega arith)) in
    rw longer (omega (arith, whole, rest, power, unsigned-split bytes at done more (omega arith), ap (λ (n : ℕ). get_or bytes n 0) place))

-- a number of one byte more, by the number before it and its byte
stepped : (bytes : List ℕ) (at done byte : ℕ) → at + done < length bytes → get_or bytes (at + done) 0 ≡ byte
    → unsigned (done + 1) bytes at ≡ unsigned done bytes at * 256 + byte
stepped bytes at done byte lt is = unsigned-more bytes at done lt ∙ ap (λ (b : ℕ). unsigned done bytes at * 256 + b) is

none : (bytes : List ℕ) (at : ℕ) → unsigned 0 bytes at ≡ 0
unfolding unsigned big_endian
none bytes at = refl

-- 64 bits by their two halves
pub unsigned-halves : (bytes : List ℕ) (at : ℕ) → at + 8 ≤ length bytes
    → unsigned 4 bytes at * 4294967296 + unsigned 4 bytes (at + 4) ≡ unsigned 8 bytes at
unsigned-halves bytes at le = sym (unsigned-split bytes at 4 4 (omega arith))

-- a part of a part
part : (place width size : ℕ) (bytes : List ℕ) → place + width ≤ size → take width (drop place (take size bytes)) ≡ take width (drop place bytes)
part zero width size bytes le = take-take width size bytes (omega arith)
part (suc place) width zero bytes le = absurd (omega arith)
part (suc place) width (suc size) [] le = refl
part (suc place) width (suc size) (byte ∷ rest) le = part place width size rest (omega arith)

-- what stands in a content at a place stands in the filing at the offset after it
module _ (bytes : List ℕ) (at size place : ℕ) where
  pub unsigned-in : (width : ℕ) → place + width ≤ size → unsigned width (take size (drop at bytes)) place ≡ unsigned width bytes (at + place)
  unfolding unsigned
  unsigned-in width le = rw (part place width size (drop at bytes) le, drop-drop) refl

  pub signed-in : place + 8 ≤ size → signed (take size (drop at bytes)) place ≡ signed bytes (at + place)
  unfolding signed
  signed-in le = ap twos_complement (unsigned-in 8 le)

  pub byte-in : place < size → get_or (take size (drop at bytes)) place 0 ≡ get_or bytes (at + place) 0
  byte-in lt = rw (get_or-take, get_or-drop) refl

-- 32 bits by their bytes, as std reads them from an array
module _ (bytes array : List ℕ) (at : ℕ) where
  abbrev Same : ℕ → Type 0
  Same size = (i : ℕ) → i < size → get_or array i 0 ≡ get_or bytes (at + i) 0

  pub unsigned-four : at + 4 ≤ length bytes → Same 4 → from_be_bytes w32 array ≡ unsigned 4 bytes at
  unsigned-four le same =
      let s = λ (i : ℕ) (lt : i < 4). stepped bytes at i (get_or array i 0) (omega arith) (sym (same i lt)) in
      omega (arith, none bytes at, s 0 (omega arith), s 1 (omega arith), s 2 (omega arith), s 3 (omega arith))

  -- the first bytes from an offset on, as an array
  pub chunk-same : (size : ℕ) → at + size ≤ length bytes → array ≡ take size (take (length bytes - at) (drop at bytes)) → Same size
  chunk-same size le is i lt =
      let run = is ∙ take-take size (length bytes - at) (drop at bytes) (omega arith) in
      ap (λ (l : List ℕ). get_or l i 0) run ∙ byte-in bytes at size i lt

pub power-more : (done : ℕ) → 256 ^ (done + 1) ≡ 256 ^ done * 256
power-more done = rw (add-one done) (pow-suc 256 done)

pub power-fits : (done : ℕ) → done < 8 → 256 ^ done * 256 ≤ 2 ^ 64
power-fits done lt = let more : done + 1 ≤ 8 = omega arith in
    let above : 0 < 256 = omega arith in
    rw (power-more done) at (pow-le-pow_right above more)

-- a byte of the run that a number's bytes are
pub byte-of-run : (bytes run : List ℕ) (at width place : ℕ) → run ≡ take width (drop at bytes) → place < length run
    → (place < width) × (get_or run place 0 ≡ get_or bytes (at + place) 0)
byte-of-run bytes run at width place is within =
    let inside : place < width = omega (arith, ap (λ (l : List ℕ). length l) is, length-take width (drop at bytes)) in
    (inside, ap (λ (l : List ℕ). get_or l place 0) is ∙ byte-in bytes at width place inside)

-- 64 bits read as a signed number
pub bits-signed : (bits : ℕ) → bits < 2 ^ 64 → to_z w64 bits ≡ twos_complement bits
unfolding twos_complement
bits-signed bits fits = rw (lt-ltb bits (2 ^ 64) fits) refl
