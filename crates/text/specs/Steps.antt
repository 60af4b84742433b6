-- What the writers of this crate leave in a slice.
-- Assumes nothing.
use Rattle.std.specs.Prelude.{ℕ, ◌+◌, List, ◌++◌, length, take, drop}

-- a list with a text put at a place
unfoldable pub with_text_at : List ℕ → ℕ → List ℕ → List ℕ
with_text_at old at text = take at old ++ text ++ drop (at + length text) old
