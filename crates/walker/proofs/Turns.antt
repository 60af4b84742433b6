-- What the walk over a filing holds at each turn, how it goes on from one turn to the next, and what it has come to when the walker stays.
-- Assumes nothing.
use Rattle.std.proofs.Common.{ℕ, ◌<◌, ◌≤◌, ◌+◌, ◌≡◌, sym, ap, subst, ◌∙◌, List, length}
use Rattle.fields.specs.Field.{field_at, field_said}
use Rattle.filing.specs.Reader.{fields_of}
use Rattle.filing.specs.Laws.{calls_in}
use Rattle.filing.specs.Ends.{end_in, found_in}
use Rattle.walker.specs.Walk.{offset_after, stands_at, moved_on}
use Rattle.walker.specs.declared.Walker.{Walker}
use Rattle.walker.specs.declared.Taken.{Taken}
use Rattle.walker.proofs.WalkedLaws.{Reached, one_more, no_more}

pub record Turn (bytes : List ℕ) (fields : ℕ) (walker : Walker) (taken : Taken) : Type 0 where
  -- the walker keeps the lent bytes
  pub same : walker.bytes.now ≡ bytes
  pub reached : Reached bytes fields walker.offset
  -- what `next` says of what it took
  pub stood : field_said taken.field ≡ stands_at walker
  pub moved : taken.walker ≡ moved_on walker

module _ (bytes : List ℕ) (fields : ℕ) (walker : Walker) (taken : Taken) (turn : Turn bytes fields walker taken) where
  pub taken_offset : taken.walker.offset ≡ offset_after bytes walker.offset
  taken_offset = ap (λ (w : Walker). w.offset) turn.moved ∙ ap (λ (l : List ℕ). offset_after l walker.offset) turn.same

  pub taken_same : taken.walker.bytes.now ≡ bytes
  taken_same = ap (λ (w : Walker). w.bytes.now) turn.moved ∙ turn.same

  -- a walker that moves has a field before it
  pub on : walker.offset < taken.walker.offset → Reached bytes (fields + 1) taken.walker.offset
  on moves =
      subst (Reached bytes (fields + 1)) (sym taken_offset)
      (one_more bytes fields walker.offset turn.reached (subst (λ (n : ℕ). walker.offset < n) taken_offset moves))

  -- a walker that stays has come to the end
  pub come_to : taken.walker.offset ≤ walker.offset
      → (fields ≡ length (calls_in (fields_of bytes))) × (walker.offset ≡ end_in (fields_of bytes)) × (field_said taken.field ≡ found_in (fields_of bytes))
  come_to stays =
      let ended = no_more bytes fields walker.offset turn.reached (subst (λ (n : ℕ). n ≤ walker.offset) taken_offset stays) in
      (ended.0, ended.1, turn.stood ∙ ap (λ (l : List ℕ). field_at l walker.offset) turn.same ∙ ended.2)
