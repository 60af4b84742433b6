-- The bytes of a field to be written are those of the call that it files.
-- Assumes nothing.
use Prim.Native.Nat.{ℕ, ◌+◌, ◌*◌, ◌/◌, ◌%◌, ◌^◌, ◌≤◌, ◌<◌}
use mathlib.Core.Path.{◌≡◌, refl}
use mathlib.Core.List.{List, [], ◌∷◌, append-nil}
use native.Mathlib.Omega.{arith}
use Rattle.calls.specs.declared.Call.{Call}
use Rattle.calls.specs.declared.Call.TheVariants.{Join, Setting, Amount, Mark, Rates, Index}
use Rattle.fields.specs.Encoding.{in_bytes, field_of, encoded}
use Rattle.encoding.specs.declared.Encoded.{Encoded}
use Rattle.encoding.specs.Fields.{bytes_in}
use Rattle.encoding.proofs.FieldLaws.{field-length}
use Rattle.writing.specs.Written.{filing_of}
use Rattle.std.specs.Prelude.{Some, None}
use Rattle.entries.specs.Entries.{EntryOf}

-- a field by its parts
abbrev field_by : ℕ → ℕ → ℕ → ℕ → ℕ → Encoded
field_by tag front front_width value value_width =
    record { tag = tag; front = front; front_width = front_width; value = value; value_width = value_width }

-- where the value is fresh there is nothing
pub nothing-there : {calls : List Call} → calls ≡ [] → EntryOf None calls
unfolding filing_of
nothing-there none = record { bytes = rw none refl; short = omega arith }

-- where it is not, the field of one call
field-there : {calls : List Call} (call : Call) (tag front front_width value value_width : ℕ) → calls ≡ call ∷ []
    → bytes_in (field_by tag front front_width value value_width) ≡ encoded call → front_width + value_width ≤ 12
    → EntryOf (Some (field_by tag front front_width value value_width)) calls
unfolding filing_of
field-there call tag front front_width value value_width one same short =
    record {
      bytes = rw (one, append-nil (encoded call)) same;
      short = rw (field-length (field_by tag front front_width value value_width)) (omega arith);
    }

module _ (operator : ℕ) (small : operator < 16) where
  pub join-there : {calls : List Call} → calls ≡ Join operator ∷ [] → EntryOf (Some (field_by 1 operator 1 0 0)) calls
  unfolding bytes_in encoded field_of in_bytes
  join-there one =
      let byte : operator / 256 ^ 0 % 256 ≡ operator = omega arith in
      field-there (Join operator) 1 operator 1 0 0 one (rw byte refl) (omega arith)

  pub setting_there : {calls : List Call} (which value : ℕ) → which < 256 → calls ≡ Setting operator which value ∷ []
      → EntryOf (Some (field_by 2 (operator * 256 + which) 2 value 8)) calls
  unfolding bytes_in encoded field_of in_bytes
  setting_there which value lw one =
      let first : (operator * 256 + which) / 256 ^ 1 % 256 ≡ operator = omega arith in
      let second : (operator * 256 + which) / 256 ^ 0 % 256 ≡ which = omega arith in
      field-there (Setting operator which value) 2 (operator * 256 + which) 2 value 8 one (rw (first, second) refl) (omega arith)

  pub amount-there : {calls : List Call} (year figure value : ℕ) → year < 256 → figure < 256 → calls ≡ Amount operator year figure 0 value ∷ []
      → EntryOf (Some (field_by 4 (((operator * 256 + year) * 256 + figure) * 256 + 0) 4 value 8)) calls
  unfolding bytes_in encoded field_of in_bytes
  amount-there year figure value ly lf one =
      let front : ℕ = ((operator * 256 + year) * 256 + figure) * 256 + 0 in
      let first : (((operator * 256 + year) * 256 + figure) * 256 + 0) / 256 ^ 3 % 256 ≡ operator = omega arith in
      let second : (((operator * 256 + year) * 256 + figure) * 256 + 0) / 256 ^ 2 % 256 ≡ year = omega arith in
      let third : (((operator * 256 + year) * 256 + figure) * 256 + 0) / 256 ^ 1 % 256 ≡ figure = omega arith in
      let fourth : (((operator * 256 + year) * 256 + figure) * 256 + 0) / 256 ^ 0 % 256 ≡ 0 = omega arith in
      field-there (Amount operator year figure 0 value) 4 (((operator * 256 + year) * 256 + figure) * 256 + 0) 4 value 8 one (rw (first, second, third, fourth) refl) (omega arith)

  pub mark-there : {calls : List Call} (indicator : ℕ) → indicator < 256 → calls ≡ Mark operator indicator 0 ∷ []
      → EntryOf (Some (field_by 5 ((operator * 256 + indicator) * 256 + 0) 3 0 0)) calls
  unfolding bytes_in encoded field_of in_bytes
  mark-there indicator li one =
      let first : ((operator * 256 + indicator) * 256 + 0) / 256 ^ 2 % 256 ≡ operator = omega arith in
      let second : ((operator * 256 + indicator) * 256 + 0) / 256 ^ 1 % 256 ≡ indicator = omega arith in
      let third : ((operator * 256 + indicator) * 256 + 0) / 256 ^ 0 % 256 ≡ 0 = omega arith in
      field-there (Mark operator indicator 0) 5 ((operator * 256 + indicator) * 256 + 0) 3 0 0 one (rw (first, second, third) refl) (omega arith)

pub index-there : {calls : List Call} (number value : ℕ) → number < 256 → calls ≡ Index number value ∷ []
    → EntryOf (Some (field_by 7 number 1 value 4)) calls
unfolding bytes_in encoded field_of in_bytes
index-there number value ln one =
    let byte : number / 256 ^ 0 % 256 ≡ number = omega arith in
    field-there (Index number value) 7 number 1 value 4 one (rw byte refl) (omega arith)

pub rates-there : {calls : List Call} (pot cap : ℕ) → calls ≡ Rates pot cap ∷ [] → EntryOf (Some (field_by 6 pot 4 cap 4)) calls
unfolding bytes_in encoded field_of in_bytes
rates-there pot cap one = field-there (Rates pot cap) 6 pot 4 cap 4 one refl (omega arith)
