-- What a call leaves in a lent buffer, whose text fits or does not (01, "Answers other than yes", number 13).
-- Assumes nothing.
use Rattle.std.specs.Prelude.{ℕ, Bool, List, [], ◌∷◌, ◌++◌, ltb, length, drop, Result, Ok, Err}
use Rattle.calls.specs.declared.Refusal.{Refusal}
use Rattle.calls.specs.Answers.{Said, refused_by, accepted, on_answer, first_of, number_of}

-- 13: "lent buffer too short"
unfoldable pub too_short : List ℕ → List ℕ → Bool
too_short buffer text = ltb (length buffer) (length text)

-- what the answer of a call that fills a lent buffer says: "with the number of bytes written"
abbrev pub filled_said : Result ℕ Refusal → Said ℕ
filled_said (Ok count) = accepted count
filled_said (Err refusal) = refused_by (number_of refusal)

-- bytes put at the front of a buffer; those after them stay
unfoldable pub put_into : List ℕ → List ℕ → List ℕ
put_into buffer text = text ++ drop (length text) buffer

-- "a refused writer or report leaves the buffer. Accepted, these two .. leave all bytes after their output"
unfoldable pub buffer_after : {A : Type 0} → List ℕ → List ℕ → Said A → List ℕ
buffer_after buffer text answer = on_answer (λ number. buffer) (λ value. put_into buffer text) answer

-- 13 alone: the number of bytes of a text that fits
unfoldable pub fitting : List ℕ → List ℕ → Said ℕ
fitting buffer text = first_of ((13, too_short buffer text) ∷ []) (length text)
