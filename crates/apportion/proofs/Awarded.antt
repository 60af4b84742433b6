-- Units handed out one each: who has one more than at the start, and who comes first.
-- Assumes nothing.
use mathlib.Core.Path.{◌≡◌, refl, sym, ap, ◌∙◌}
use mathlib.Core.Logic.{◌⊎◌, inl, inr, ◌≢◌}
use mathlib.Core.List.{List, [], ◌∷◌}
use Prim.Native.Nat.{ℕ, zero, suc, ◌+◌, ◌-◌, ◌*◌, ◌≤◌, ◌<◌}
use native.Mathlib.Nat.{mul-zero}
use native.Mathlib.Numerals.{sub-one}
use native.Mathlib.Omega.{arith}
use native.Mathlib.Decide.{ℕ_discrete, dec_lt}
use lib.ListN.{length, get_or, set, length-set}
use lib.Seq.{get_or-set_same, get_or-set_other}
use Rattle.apportion.specs.Sum.{sum}
use Rattle.apportion.specs.Share.{foremost, award}
use Rattle.apportion.proofs.Sums.{sum-set, sum_bound}
use Rattle.apportion.proofs.Order.{Precedes, no_less, foremost-lt, foremost-first}

-- who is served next
abbrev pub next : List ℕ → List ℕ → ℕ
next sizes remaining = foremost sizes remaining (length remaining)

next-lt : (sizes remaining : List ℕ) → 0 < sum remaining → next sizes remaining < length remaining
unfolding sum
next-lt sizes [] pos = absurd (omega arith)
next-lt sizes (x ∷ remaining) pos = foremost-lt sizes (x ∷ remaining) (suc (length remaining)) (omega arith)

-- nobody has a larger remainder
next-largest : (sizes remaining : List ℕ) (j : ℕ) → j < length remaining → get_or remaining j 0 ≤ get_or remaining (next sizes remaining) 0
next-largest sizes remaining j lt = go (ℕ_discrete j (next sizes remaining))
  where
    go : Dec (j ≡ next sizes remaining) → get_or remaining j 0 ≤ get_or remaining (next sizes remaining) 0
    go (yes same) = rw same (omega arith)
    go (no other) = no_less _ _ _ _ _ _ (foremost-first sizes remaining (length remaining) j lt other)

-- while something remains, the next to be served has some of it
next-positive : (sizes remaining : List ℕ) → 0 < sum remaining → 0 < get_or remaining (next sizes remaining) 0
next-positive sizes remaining pos = go (dec_lt 0 (get_or remaining (next sizes remaining) 0))
  where
    go : Dec (0 < get_or remaining (next sizes remaining) 0) → 0 < get_or remaining (next sizes remaining) 0
    go (yes h) = h
    go (no h) =
        let all = sum_bound remaining 0 (λ j lt. omega (arith, next-largest sizes remaining j lt, h)) in
        absurd (omega (arith, all, mul-zero (length remaining)))

-- a list with one unit more at a place
abbrev pub incremented : List ℕ → ℕ → List ℕ
incremented shares place = set shares place (get_or shares place 0 + 1)

pub incremented-same : (shares : List ℕ) (i : ℕ) → i < length shares → get_or (incremented shares i) i 0 ≡ get_or shares i 0 + 1
incremented-same shares i lt = get_or-set_same shares i _ 0 lt

pub incremented-other : (shares : List ℕ) (i j : ℕ) → j ≢ i → get_or (incremented shares i) j 0 ≡ get_or shares j 0
incremented-other shares i j ne = get_or-set_other shares i j _ 0 ne

pub length-incremented : (shares : List ℕ) (i : ℕ) → length (incremented shares i) ≡ length shares
length-incremented shares i = length-set shares i _

pub sum-incremented : (shares : List ℕ) (i : ℕ) → i < length shares → sum (incremented shares i) ≡ sum shares + 1
sum-incremented shares i lt = omega (arith, sum-set shares i (get_or shares i 0 + 1) lt)

-- remainders below s and the floors at the start; what remains and the shares now, with units still to hand out
module _ (sizes : List ℕ) (s : ℕ) (start base : List ℕ) where
  -- place i has what it had at the start,
  abbrev pub Waits : List ℕ → List ℕ → ℕ → Type 0
  Waits remaining shares i = (get_or shares i 0 ≡ get_or base i 0) × (get_or remaining i 0 ≡ get_or start i 0)

  -- or one unit more and no remainder left
  abbrev pub Served : List ℕ → List ℕ → ℕ → Type 0
  Served remaining shares i = (get_or shares i 0 ≡ get_or base i 0 + 1) × (get_or remaining i 0 ≡ 0) × (0 < get_or start i 0)

  pub record Serving (units : ℕ) (remaining shares : List ℕ) : Type 0 where
    pub long : length remaining ≡ length start
    pub as_long : length shares ≡ length start
    pub small : (i : ℕ) → i < length start → get_or remaining i 0 < s
    pub enough : units * s ≤ sum remaining
    pub each : (i : ℕ) → i < length start → Waits remaining shares i ⊎ Served remaining shares i
    pub order : (i j : ℕ) → i < length start → j < length start → get_or shares i 0 ≡ get_or base i 0 + 1 → get_or shares j 0 ≡ get_or base j 0
        → Precedes (get_or start i 0) (get_or sizes i 0) i (get_or start j 0) (get_or sizes j 0) j

  -- one unit is handed out
  module _ (units : ℕ) (remaining shares : List ℕ) (pos : 0 < s) (now : Serving (suc units) remaining shares) where
    left : 0 < sum remaining
    left = omega (arith, now.enough)

    p-lt : next sizes remaining < length start
    p-lt = rw (← now.long) (next-lt sizes remaining left)

    p-waits : Waits remaining shares (next sizes remaining)
    p-waits = go (now.each (next sizes remaining) p-lt)
      where
        go : Waits remaining shares (next sizes remaining) ⊎ Served remaining shares (next sizes remaining) → Waits remaining shares (next sizes remaining)
        go (inl w) = w
        go (inr v) = absurd (omega (arith, next-positive sizes remaining left, v.1))

    pub place-lt : next sizes remaining < length shares
    place-lt = rw now.as_long p-lt

    abbrev rest : List ℕ
    rest = set remaining (next sizes remaining) 0

    abbrev more : List ℕ
    more = incremented shares (next sizes remaining)

    each_next : (i : ℕ) → i < length start → Dec (i ≡ next sizes remaining) → Waits rest more i ⊎ Served rest more i
    each_next i lt (yes same) =
        rw same
        (inr (
          incremented-same shares (next sizes remaining) place-lt ∙ ap (λ (n : ℕ). n + 1) p-waits.0,
          get_or-set_same remaining (next sizes remaining) 0 0 (next-lt sizes remaining left),
          omega (arith, next-positive sizes remaining left, p-waits.1),
        ))
    each_next i lt (no other) = rw (incremented-other shares (next sizes remaining) i other, get_or-set_other remaining (next sizes remaining) i 0 0 other) (now.each i lt)

    small-next : (i : ℕ) → i < length start → Dec (i ≡ next sizes remaining) → get_or rest i 0 < s
    small-next i lt (yes same) = rw (same, get_or-set_same remaining (next sizes remaining) 0 0 (next-lt sizes remaining left)) pos
    small-next i lt (no other) = rw (get_or-set_other remaining (next sizes remaining) i 0 0 other) (now.small i lt)

    order-next : (i j : ℕ) → i < length start → j < length start → Dec (i ≡ next sizes remaining) → Dec (j ≡ next sizes remaining)
        → get_or more i 0 ≡ get_or base i 0 + 1 → get_or more j 0 ≡ get_or base j 0 → Precedes (get_or start i 0) (get_or sizes i 0) i (get_or start j 0) (get_or sizes j 0) j
    order-next i j li lj di (yes same) ei ej =
        let one_more = incremented-same shares (next sizes remaining) place-lt in
        absurd (omega (arith, one_more, p-waits.0, rw same at ej))
    order-next i j li lj (yes same) (no other) ei ej =
        rw (same, ← p-waits.1, ← unserved (now.each j lj)) (foremost-first sizes remaining (length remaining) j (rw now.long lj) other)
      where
        unserved : Waits remaining shares j ⊎ Served remaining shares j → get_or remaining j 0 ≡ get_or start j 0
        unserved (inl w) = w.1
        unserved (inr v) = absurd (omega (arith, v.0, ej, incremented-other shares (next sizes remaining) j other))
    order-next i j li lj (no before) (no other) ei ej =
        now.order i j li lj
        (sym (incremented-other shares (next sizes remaining) i before) ∙ ei)
        (sym (incremented-other shares (next sizes remaining) j other) ∙ ej)

    pub serve : Serving units rest more
    serve =
        record {
          long = length-set remaining (next sizes remaining) 0 ∙ now.long;
          as_long = length-incremented shares (next sizes remaining) ∙ now.as_long;
          small = λ i lt. small-next i lt (ℕ_discrete i (next sizes remaining));
          enough =
              omega (arith, now.enough, now.small (next sizes remaining) p-lt, sum-set remaining (next sizes remaining) 0 (next-lt sizes remaining left));
          each = λ i lt. each_next i lt (ℕ_discrete i (next sizes remaining));
          order = λ i j li lj. order-next i j li lj (ℕ_discrete i (next sizes remaining)) (ℕ_discrete j (next sizes remaining));
        }

  -- all units are handed out
  pub awarded : (units : ℕ) (remaining shares : List ℕ) → 0 < s → Serving units remaining shares
      → (rest : List ℕ) × Serving 0 rest (award sizes units remaining shares)
  unfolding award
  awarded zero remaining shares pos now = (remaining, now)
  awarded (suc units) remaining shares pos now = awarded units _ _ pos (serve units remaining shares pos now)

  pub award-sum : (units : ℕ) (remaining shares : List ℕ) → 0 < s → Serving units remaining shares
      → sum (award sizes units remaining shares) ≡ sum shares + units
  unfolding award
  award-sum zero remaining shares pos now = omega arith
  award-sum (suc units) remaining shares pos now =
      omega (
        arith,
        award-sum units _ _ pos (serve units remaining shares pos now),
        sum-incremented shares (next sizes remaining) (place-lt units remaining shares pos now),
      )

-- one unit handed out, as the loop does it
pub award-step : (units n place : ℕ) (sizes remaining shares : List ℕ) → 0 < units → length remaining ≡ n → place ≡ foremost sizes remaining n
    → award sizes (units - 1) (set remaining place 0) (set shares place (get_or shares place 0 + 1)) ≡ award sizes units remaining shares
unfolding award
award-step zero n place sizes remaining shares pos long e = absurd (omega arith)
award-step (suc units) n place sizes remaining shares pos long e = rw (sub-one (suc units), e, ← long) refl

-- handing out what is left now ends as handing out all units at the start, over n places
pub record HandingOut (n units : ℕ) (sizes remaining₀ shares₀ : List ℕ) (left : ℕ) (remaining shares : List ℕ) : Type 0 where
  pub shares_long : length shares ≡ n
  pub remaining_long : length remaining ≡ n
  pub units_kept : sum shares + left ≡ sum shares₀ + units
  pub ends_alike : award sizes left remaining shares ≡ award sizes units remaining₀ shares₀
