-- A call as the bytes of a field, the table of tags written the other way (01, "The filing").
-- Assumes nothing.
use Rattle.std.specs.Prelude.{ℕ, zero, suc, ◌-◌, ◌/◌, ◌%◌, ◌^◌, ◌+◌, ◌<◌, List, [], ◌∷◌, ◌++◌, ℤ, pos, negsuc, length, ◌≡◌}
use Rattle.calls.specs.declared.Call.{Call}
use Rattle.calls.specs.declared.Call.TheVariants.{Join, Setting, Interruption, Amount, Mark, Rates, Index}
use Rattle.calls.specs.Indicators.{Indicator}
use Rattle.calls.specs.Answers.{accepted}
use Rattle.fields.specs.Field.{call_then, field_in}

-- a number in so many bytes: "Numbers are big-endian"
unfoldable pub in_bytes : ℕ → ℕ → List ℕ
in_bytes zero number = []
in_bytes (suc width) number = number / 256 ^ width % 256 ∷ in_bytes width number

-- "i" two's complement, of 64 bits
unfoldable pub bits_of : ℤ → ℕ
bits_of (pos n) = n
bits_of (negsuc n) = 2 ^ 64 - 1 - n

-- "tag (1 byte), length (2 bytes), content"
unfoldable pub field_of : ℕ → List ℕ → List ℕ
field_of tag content = tag ∷ in_bytes 2 (length content) ++ content

-- the table of 01, tags 1 to 7
unfoldable pub encoded : Call → List ℕ
encoded (Join operator) = field_of 1 (operator ∷ [])
encoded (Setting operator which value) = field_of 2 (operator ∷ which ∷ in_bytes 8 value)
encoded (Interruption operator sign level cause start end weight) =
    field_of 3 (operator ∷ sign ∷ level ∷ cause ∷ in_bytes 8 (bits_of start) ++ in_bytes 8 (bits_of end) ++ in_bytes 4 weight)
encoded (Amount operator year figure sign value) = field_of 4 (operator ∷ year ∷ figure ∷ sign ∷ in_bytes 8 value)
encoded (Mark operator indicator mark) = field_of 5 (operator ∷ indicator ∷ mark ∷ [])
encoded (Rates pot cap) = field_of 6 (in_bytes 4 pot ++ in_bytes 4 cap)
encoded (Index number value) = field_of 7 (number ∷ in_bytes 4 value)

-- a number that fits 64 bits as two's complement
abbrev pub FitsSigned : ℤ → Type 0
FitsSigned (pos n) = n < 2 ^ 63
FitsSigned (negsuc n) = n < 2 ^ 63

-- the numbers of a call fit their bytes (a value of one byte is what it is)
abbrev pub FitsBytes : Call → Type 0
FitsBytes (Join operator) = Unit {0}
FitsBytes (Setting operator which value) = value < 2 ^ 64
FitsBytes (Interruption operator sign level cause start end weight) = FitsSigned start × FitsSigned end × (weight < 2 ^ 32)
FitsBytes (Amount operator year figure sign value) = value < 2 ^ 64
FitsBytes (Mark operator indicator mark) = Unit {0}
FitsBytes (Rates pot cap) = (pot < 2 ^ 32) × (cap < 2 ^ 32)
FitsBytes (Index number value) = value < 2 ^ 32

-- decoding an encoded call gives the call, wherever it stands in a filing of a kind; the proof is `decodes` of proofs/EncodingLaws.antt
abbrev pub Decodes : List Indicator → Call → Type 0
Decodes kind call = (before after : List ℕ)
    → field_in kind (before ++ encoded call ++ after) (length before) ≡ accepted (call_then call (length before + length (encoded call)))
