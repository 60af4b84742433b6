-- A line as its name and its columns, and the columns put one after the other: the room that each has, and what they are together.
-- Assumes nothing.
use Prim.Native.Nat.{ℕ, ◌+◌, ◌≤◌}
use mathlib.Core.Path.{◌≡◌}
use mathlib.Core.List.{List, [], ◌∷◌, ◌++◌, append_assoc}
use lib.IntN.{ℤ}
use lib.ListN.{length}
use Rattle.text.specs.Text.{decimal, signed_decimal}
use Rattle.text.proofs.WrittenLaws.{Put, room-first, room_after, put_then, three-first, three-second, three_third, put_three}
use Rattle.columns.specs.declared.Row.{Row}
use Rattle.columns.specs.Columns.{line, number_line, columns_of}

after-name : (name a b c d e : List ℕ) → name ++ a ++ b ++ c ++ d ++ e ≡ name ++ (a ++ b ++ c ++ d ++ e)
after-name name a b c d e = simp append_assoc

-- a name, and the columns after it
pub line-named : (name : List ℕ) (row : Row) → number_line name row.points row.paid row.received row.adjustment ≡ name ++ columns_of row
unfolding line
line-named name row =
    after-name name (32 ∷ decimal row.points) (32 ∷ decimal row.paid) (32 ∷ decimal row.received) (32 ∷ signed_decimal row.adjustment) (10 ∷ [])

-- three columns, and the last with the line's end
columns-parts : (row : Row)
    → columns_of row
    ≡ (32 ∷ decimal row.points) ++ (32 ∷ decimal row.paid) ++ (32 ∷ decimal row.received) ++ ((32 ∷ signed_decimal row.adjustment) ++ (10 ∷ []))
unfolding line
columns-parts row =
    append_assoc ((32 ∷ decimal row.points) ++ (32 ∷ decimal row.paid) ++ (32 ∷ decimal row.received)) (32 ∷ signed_decimal row.adjustment) (10 ∷ [])

-- a number after a space
abbrev column : ℕ → List ℕ
column n = 32 ∷ decimal n

abbrev ending : ℤ → List ℕ
ending n = (32 ∷ signed_decimal n) ++ (10 ∷ [])

module _ (old : List ℕ) (at : ℕ) (row : Row) (room : at + length (columns_of row) ≤ length old) where
  room-all : at + length (column row.points ++ column row.paid ++ column row.received ++ ending row.adjustment) ≤ length old
  room-all = rw columns-parts at room

  room-three : at + length (column row.points ++ column row.paid ++ column row.received) ≤ length old
  room-three = room-first old at (column row.points ++ column row.paid ++ column row.received) (ending row.adjustment) room-all

  pub points-room : at + length (column row.points) ≤ length old
  points-room = three-first old at (column row.points) (column row.paid) (column row.received) room-three

  module _ {old₁ : List ℕ} {at₁ : ℕ} (first : Put old at (column row.points) old₁ at₁) where
    pub out-room : at₁ + length (column row.paid) ≤ length old₁
    out-room = three-second old at (column row.points) (column row.paid) (column row.received) room-three first

    module _ {old₂ : List ℕ} {at₂ : ℕ} (second : Put old₁ at₁ (column row.paid) old₂ at₂) where
      pub received-room : at₂ + length (column row.received) ≤ length old₂
      received-room = three_third old at (column row.points) (column row.paid) (column row.received) room-three first second

      module _ {old₃ : List ℕ} {at₃ : ℕ} (third : Put old₂ at₂ (column row.received) old₃ at₃) where
        three : Put old at (column row.points ++ column row.paid ++ column row.received) old₃ at₃
        three = put_three old at (column row.points) (column row.paid) (column row.received) room-three first second third

        pub adjustment-room : at₃ + length (ending row.adjustment) ≤ length old₃
        adjustment-room = room_after old at (column row.points ++ column row.paid ++ column row.received) (ending row.adjustment) room-all three

        pub columns-put : {new : List ℕ} {after : ℕ} → Put old₃ at₃ (ending row.adjustment) new after → Put old at (columns_of row) new after
        columns-put fourth = rw columns-parts (put_then old at (column row.points ++ column row.paid ++ column row.received) (ending row.adjustment) room-all three fourth)
