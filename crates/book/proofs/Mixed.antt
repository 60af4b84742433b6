-- Lists that are partly written: the first places of one list before the rest of another, and a list whose elements are all changed.
-- Assumes nothing.
use Prim.Native.Nat.{ℕ, zero, suc, ◌<◌}
use mathlib.Core.Path.{◌≡◌, refl, sym, ap, ◌∙◌}
use mathlib.Core.List.{List, [], ◌∷◌, ◌++◌, map, append_assoc, append-nil}
use native.Mathlib.Omega.{arith}
use lib.ListN.{length, get_or, take, drop, set, length-take}
use lib.Seq.{take-suc, drop-cons, set_at, get_or_at, take_all, drop-length}

-- the first places of a list, and the others of another
abbrev pub mix : ℕ → List ℕ → List ℕ → List ℕ
mix k new old = take k new ++ drop k old

module _ (new old : List ℕ) (same : length old ≡ length new) (k : ℕ) (lt : k < length new) where
  taken : length (take k new) ≡ k
  taken = rw length-take (omega arith)

  more : mix (suc k) new old ≡ take k new ++ get_or new k 0 ∷ drop (suc k) old
  more = ap (λ (l : List ℕ). l ++ drop (suc k) old) (take-suc new k 0 lt) ∙ append_assoc (take k new) (get_or new k 0 ∷ []) (drop (suc k) old)

  rest : drop k old ≡ get_or old k 0 ∷ drop (suc k) old
  rest = drop-cons old k 0 (rw same lt)

  -- the next place stored
  pub mix-set : set (mix k new old) k (get_or new k 0) ≡ mix (suc k) new old
  mix-set = rw rest (set_at (take k new) (get_or old k 0) (drop (suc k) old) (get_or new k 0) k taken) ∙ sym more

  -- the next place is the same in both
  pub mix-same : get_or new k 0 ≡ get_or old k 0 → mix k new old ≡ mix (suc k) new old
  mix-same e = rw rest (rw (sym e) refl) ∙ sym more

  -- what stands at the next place
  pub mix-at : get_or (mix k new old) k 0 ≡ get_or old k 0
  mix-at = rw rest (get_or_at (take k new) (get_or old k 0) (drop (suc k) old) 0 k taken)

pub mix_all : (n : ℕ) (new old : List ℕ) → length new ≡ n → length old ≡ n → mix n new old ≡ new
mix_all n new old long long-old =
    let none : drop n old ≡ [] = rw (← long-old) (drop-length old) in
    rw (none, append-nil, take_all n new (omega (arith, long))) refl

-- an element of a list that is changed throughout
pub map_at : (f : ℕ → ℕ) (l : List ℕ) (k : ℕ) → k < length l → get_or (map f l) k 0 ≡ f (get_or l k 0)
map_at f [] k lt = absurd (omega arith)
map_at f (x ∷ l) zero lt = refl
map_at f (x ∷ l) (suc k) lt = map_at f l k (omega arith)
