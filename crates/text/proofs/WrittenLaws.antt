-- A text put into a list at a place: the length stays, and one text after another is both at once.
-- Assumes nothing.
use Prim.Native.Nat.{ℕ, suc, ◌+◌, ◌≤◌}
use mathlib.Core.Path.{◌≡◌, refl, sym, ap, ◌∙◌}
use mathlib.Core.List.{List, [], ◌∷◌, ◌++◌, append_assoc}
use native.Mathlib.Numerals.{add-one}
use native.Mathlib.Omega.{arith}
use lib.ListN.{length, take, drop, set, length-append, length-take, length-drop}
use lib.Seq.{set_split, set-append_left, take-set-lt, take-suc-set, append_snoc, take_at, drop-drop, drop-append-add, length-take-le, paste, paste-zero, take-length}
use Rattle.text.specs.Steps.{with_text_at}

pub length-written : (old : List ℕ) (at : ℕ) (text : List ℕ) → at + length text ≤ length old → length (with_text_at old at text) ≡ length old
unfolding with_text_at
length-written old at text room = simp (length-append, length-take, length-drop) (omega arith)

-- a store
pub written_byte : (old : List ℕ) (at byte : ℕ) → at + 1 ≤ length old → set old at byte ≡ with_text_at old at (byte ∷ [])
unfolding with_text_at
written_byte old at byte room = set_split old at byte (omega arith) ∙ (rw (add-one at) (sym (append_snoc (take at old) byte _)))

-- a copy of all of a text
pub written-paste : (old : List ℕ) (at : ℕ) (text : List ℕ) → paste old at text (length text) ≡ with_text_at old at text
unfolding with_text_at
written-paste old at text = rw (take-length text) refl

-- a byte stored just before a text that was put
pub byte-before : (old : List ℕ) (at byte : ℕ) (text : List ℕ) → at + 1 ≤ length old → set (with_text_at old (at + 1) text) at byte ≡ with_text_at old at (byte ∷ text)
unfolding with_text_at
byte-before old at byte text room =
    let head : List ℕ = take (at + 1) old in
    let rest : List ℕ = drop (at + 1 + length text) old in
    let long : length head ≡ at + 1 = length-take-le (at + 1) old room in
    let front : set head at byte ≡ take at old ++ (byte ∷ []) =
    rw (add-one at) (sym (take-set-lt (suc at) old at byte (omega arith)) ∙ take-suc-set old at byte (omega arith)) in
    let after : at + 1 + length text ≡ at + suc (length text) = omega arith in
    set-append_left (head ++ text) rest at byte (rw length-append (omega (arith, long)))
    ∙ ap (λ (l : List ℕ). l ++ rest) (set-append_left head text at byte (omega (arith, long)))
    ∙ rw (front, append_snoc (take at old) byte text, after) refl

-- what comes before a place, with a text there
front : (old : List ℕ) (at : ℕ) (text : List ℕ) → at + length text ≤ length old → length (take at old ++ text) ≡ at + length text
front old at text room = length-append (take at old) text ∙ ap (λ (n : ℕ). n + length text) (length-take-le at old (omega arith))

-- written twice is written once
pub written_twice : (old : List ℕ) (at : ℕ) (first second : List ℕ) → at + length first ≤ length old
    → with_text_at (with_text_at old at first) (at + length first) second ≡ with_text_at old at (first ++ second)
unfolding with_text_at
written_twice old at first second room =
    let long = front old at first room in
    let rest : List ℕ = drop (at + length first) old in
    let same : at + length first + length second ≡ at + length (first ++ second) = omega (arith, length-append first second) in
    let kept : drop (at + length first + length second) (take at old ++ first ++ rest) ≡ drop (at + length (first ++ second)) old =
    ap (λ (n : ℕ). drop (n + length second) (take at old ++ first ++ rest)) (sym long)
    ∙ drop-append-add (take at old ++ first) rest (length second)
    ∙ drop-drop (length second) (at + length first) old
    ∙ ap (λ (n : ℕ). drop n old) same in
    rw (take_at (take at old ++ first) rest (at + length first) long, kept, append_assoc (take at old) first second) refl

-- a text was put at a place, and the place after it is known
abbrev pub Put : List ℕ → ℕ → List ℕ → List ℕ → ℕ → Type 0
Put old at text new after = (new ≡ with_text_at old at text) × (after ≡ at + length text)

-- no text
pub put-nothing : (old : List ℕ) (at : ℕ) → Put old at [] old at
unfolding with_text_at
put-nothing old at = (paste-zero old at [], omega arith)

-- one text after another
module _ (old : List ℕ) (at : ℕ) (first second : List ℕ) (room : at + length (first ++ second) ≤ length old) where
  pub room-first : at + length first ≤ length old
  room-first = omega (arith, room, length-append first second)

  pub room_after : {mid : List ℕ} {between : ℕ} → Put old at first mid between → between + length second ≤ length mid
  room_after put = omega (arith, room, length-append first second, put.1, ap length put.0, length-written old at first room-first)

  pub put_then : {mid new : List ℕ} {between after : ℕ} → Put old at first mid between → Put mid between second new after → Put old at (first ++ second) new after
  put_then put more = (
    more.0 ∙ rw (put.0, put.1) (written_twice old at first second room-first),
    omega (arith, put.1, more.1, length-append first second),
  )

-- three texts, one after the other
module _ (old : List ℕ) (at : ℕ) (one two three : List ℕ) (room : at + length (one ++ two ++ three) ≤ length old) where
  room-two : at + length (one ++ two) ≤ length old
  room-two = room-first old at (one ++ two) three room

  pub three-first : at + length one ≤ length old
  three-first = room-first old at one two room-two

  pub three-second : {mid : List ℕ} {between : ℕ} → Put old at one mid between → between + length two ≤ length mid
  three-second first = room_after old at one two room-two first

  module _ {mid more : List ℕ} {between later : ℕ} (first : Put old at one mid between) (second : Put mid between two more later) where
    both : Put old at (one ++ two) more later
    both = put_then old at one two room-two first second

    pub three_third : later + length three ≤ length more
    three_third = room_after old at (one ++ two) three room both

    pub put_three : {new : List ℕ} {after : ℕ} → Put more later three new after → Put old at (one ++ two ++ three) new after
    put_three third = put_then old at (one ++ two) three room both third
