-- A field put number by number: the room of each, and all of them together.
-- Assumes nothing.
use Prim.Native.Nat.{ℕ, ◌+◌, ◌≤◌}
use mathlib.Core.Path.{◌≡◌}
use mathlib.Core.List.{List, ◌++◌}
use native.Mathlib.Omega.{arith}
use lib.ListN.{length, length-append}
use Rattle.text.proofs.WrittenLaws.{Put, room-first, room_after, put_then, three-first, three-second, three_third, put_three}
use Rattle.fields.specs.Encoding.{in_bytes}
use Rattle.fields.proofs.EncodingLaws.{bytes-length}
use Rattle.encoding.specs.declared.Encoded.{Encoded}
use Rattle.encoding.specs.Fields.{bytes_in}

pub field-length : (field : Encoded) → length (bytes_in field) ≡ 3 + field.front_width + field.value_width
unfolding bytes_in
field-length field = simp (length-append, bytes-length) (omega arith)

module _ (old : List ℕ) (at : ℕ) (field : Encoded) (room : at + length (bytes_in field) ≤ length old) where
  abbrev tag-bytes : List ℕ
  tag-bytes = in_bytes 1 field.tag

  abbrev length-bytes : List ℕ
  length-bytes = in_bytes 2 (field.front_width + field.value_width)

  abbrev front_bytes : List ℕ
  front_bytes = in_bytes field.front_width field.front

  abbrev value-bytes : List ℕ
  value-bytes = in_bytes field.value_width field.value

  room-before-value : at + length (tag-bytes ++ length-bytes ++ front_bytes) ≤ length old
  unfolding bytes_in
  room-before-value = room-first old at (tag-bytes ++ length-bytes ++ front_bytes) value-bytes room

  pub tag-room : at + length tag-bytes ≤ length old
  tag-room = three-first old at tag-bytes length-bytes front_bytes room-before-value

  module _ {one : List ℕ} {first : ℕ} (tag-put : Put old at tag-bytes one first) where
    pub length-room : first + length length-bytes ≤ length one
    length-room = three-second old at tag-bytes length-bytes front_bytes room-before-value tag-put

    module _ {two : List ℕ} {second : ℕ} (length-put : Put one first length-bytes two second) where
      pub front-room : second + length front_bytes ≤ length two
      front-room = three_third old at tag-bytes length-bytes front_bytes room-before-value tag-put length-put

      module _ {three : List ℕ} {third : ℕ} (front-put : Put two second front_bytes three third) where
        three-put : Put old at (tag-bytes ++ length-bytes ++ front_bytes) three third
        three-put = put_three old at tag-bytes length-bytes front_bytes room-before-value tag-put length-put front-put

        pub value_room : third + length value-bytes ≤ length three
        unfolding bytes_in
        value_room = room_after old at (tag-bytes ++ length-bytes ++ front_bytes) value-bytes room three-put

        pub field_put : {new : List ℕ} {after : ℕ} → Put three third value-bytes new after → Put old at (bytes_in field) new after
        unfolding bytes_in
        field_put value-put = put_then old at (tag-bytes ++ length-bytes ++ front_bytes) value-bytes room three-put value-put
