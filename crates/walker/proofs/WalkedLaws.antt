-- A walk under way: what it has counted, and what is still to come, make up the whole filing. One law for the start, a step and the end.
-- Assumes nothing.
use Prim.Native.Nat.{ℕ, ◌+◌, ◌≤◌, ◌<◌}
use mathlib.Core.Path.{◌≡◌, refl, subst}
use mathlib.Core.List.{List}
use native.Mathlib.Omega.{arith}
use lib.ListN.{length}
use Rattle.calls.specs.Indicators.{electricity}
use Rattle.calls.specs.Answers.{Said, refused_by, accepted, on_answer}
use Rattle.fields.specs.Field.{Found, at_end, call_then, field_at}
use Rattle.fields.proofs.FieldLaws.{Stands, stands}
use Rattle.filing.specs.Reader.{Fields, followed, fields_from, fields_in, fields_of}
use Rattle.filing.specs.Laws.{calls_in}
use Rattle.filing.proofs.WalkLaws.{after, fields-next}
use Rattle.filing.specs.Ends.{end_in, found_in}
use Rattle.walker.specs.Walk.{past_found, past, offset_after}

module _ (bytes : List ℕ) where
  -- the fields from an offset on
  abbrev from : ℕ → Fields
  from at = fields_from electricity (length bytes) bytes at

  -- so many fields before an offset, and those to come, are the filing's fields
  abbrev Counted : ℕ → Fields → Type 0
  Counted fields ahead =
      (fields + length (calls_in ahead) ≡ length (calls_in (fields_of bytes))) × (end_in ahead ≡ end_in (fields_of bytes))
      × (found_in ahead ≡ found_in (fields_of bytes))

  pub record Reached (fields offset : ℕ) : Type 0 where
    pub within : (fields ≤ offset) × (offset ≤ length bytes)
    pub counted : Counted fields (from offset)

  pub at-start : Reached 0 0
  unfolding fields_in
  at-start = record { within = (omega arith, omega arith); counted = (omega arith, refl, refl) }

  module _ (fields offset : ℕ) (reached : Reached fields offset) where
    ahead : Counted fields (after from offset (field_at bytes offset))
    ahead = subst (Counted fields) (fields-next electricity bytes offset) reached.counted

    -- a walker that moves has a field before it
    pub one_more : offset < offset_after bytes offset → Reached (fields + 1) (offset_after bytes offset)
    unfolding offset_after past past_found on_answer followed calls_in end_in found_in
    one_more = go (field_at bytes offset) (stands electricity bytes offset) ahead
      where
        go : (found : Said Found) → Stands bytes offset found → Counted fields (after from offset found) → offset < past offset found
            → Reached (fields + 1) (past offset found)
        go (accepted (call_then call next)) placed counted moves =
            record { within = (omega (arith, reached.within), placed.1); counted = (omega (arith, counted.0), counted.1, counted.2) }
        go (accepted at_end) placed counted moves = absurd (omega arith)
        go (refused_by number) placed counted moves = absurd (omega arith)

    -- a walker that stays has come to the end
    pub no_more : offset_after bytes offset ≤ offset
        → (fields ≡ length (calls_in (fields_of bytes))) × (offset ≡ end_in (fields_of bytes)) × (field_at bytes offset ≡ found_in (fields_of bytes))
    unfolding offset_after past past_found on_answer followed calls_in end_in found_in
    no_more = go (field_at bytes offset) (stands electricity bytes offset) ahead
      where
        go : (found : Said Found) → Stands bytes offset found → Counted fields (after from offset found) → past offset found ≤ offset
            → (fields ≡ length (calls_in (fields_of bytes))) × (offset ≡ end_in (fields_of bytes)) × (found ≡ found_in (fields_of bytes))
        go (accepted (call_then call next)) placed counted stays = absurd (omega (arith, placed.0))
        go (accepted at_end) placed counted stays = (omega (arith, counted.0), counted.1, counted.2)
        go (refused_by number) placed counted stays = (omega (arith, counted.0), counted.1, counted.2)
