-- Every sharing is as specs/Laws.antt says.
-- Assumes nothing.
use mathlib.Core.Path.{◌≡◌, refl, sym, ap, ◌∙◌}
use mathlib.Core.Logic.{◌⊎◌, inl, inr, ⊎_elim}
use mathlib.Core.List.{List, map}
use Prim.Native.Nat.{ℕ, ◌+◌, ◌-◌, ◌*◌, ◌/◌, ◌%◌, ◌≤◌, ◌<◌}
use native.Mathlib.Nat.{mul-zero, div-zero, zero-div, zero-mod, mod-lt, div-add-mod', mul-le-mul_right, le_of_mul-le-mul_right, lt_of_mul-lt-mul_right, add-sub_of_le}
use native.Mathlib.Numerals.{add-one}
use native.Mathlib.Omega.{arith}
use native.Mathlib.Decide.{dec_lt}
use lib.ListN.{length, get_or, length-map}
use borrow.Author.Tests.{eq-eqb, ne_eqb}
use Rattle.apportion.specs.Sum.{sum}
use Rattle.apportion.specs.Share.{floors, remainders, award, share}
use Rattle.apportion.specs.Laws.{Shared}
use Rattle.apportion.proofs.Sums.{map_at, divisions}
use Rattle.apportion.proofs.Order.{Precedes}
use Rattle.apportion.proofs.Awarded.{Serving, awarded, award-sum}

module _ (T : ℕ) (weights : List ℕ) where
  -- what stands at place i
  abbrev weight_at : ℕ → ℕ
  weight_at i = get_or weights i 0

  abbrev floor_at : ℕ → ℕ
  floor_at i = get_or (floors T weights) i 0

  abbrev remainder_at : ℕ → ℕ
  remainder_at i = get_or (remainders T weights) i 0

  -- "the units left over"
  abbrev pub left_over : ℕ
  left_over = T - sum (floors T weights)

-- the two cases of the definition
pub share-none : (T : ℕ) (weights sizes : List ℕ) → sum weights ≡ 0 → share T weights sizes ≡ map (λ (w : ℕ). 0) weights
unfolding share
share-none T weights sizes e = rw (eq-eqb (sum weights) 0 e) refl

pub share-some : (T : ℕ) (weights sizes : List ℕ) → 0 < sum weights
    → share T weights sizes ≡ award sizes (left_over T weights) (remainders T weights) (floors T weights)
unfolding share
share-some T weights sizes pos = rw (ne_eqb (sum weights) 0 (λ e. omega arith)) refl

module _ (T : ℕ) (weights : List ℕ) where
  pub floor-at : (i : ℕ) → i < length weights → floor_at T weights i ≡ T * weight_at T weights i / sum weights
  unfolding floors
  floor-at i lt = map_at _ weights i lt

  pub remainder-at : (i : ℕ) → i < length weights → remainder_at T weights i ≡ T * weight_at T weights i % sum weights
  unfolding remainders
  remainder-at i lt = map_at _ weights i lt

  pub length-floors : length (floors T weights) ≡ length weights
  unfolding floors
  length-floors = length-map weights _

  pub length-remainders : length (remainders T weights) ≡ length weights
  unfolding remainders
  length-remainders = length-map weights _

  -- all floors and remainders make up the total
  pub made_up : sum (floors T weights) * sum weights + sum (remainders T weights) ≡ T * sum weights
  unfolding floors remainders
  made_up = divisions T (sum weights) weights

  -- T × weight, divided and put together again
  put-together : (i : ℕ) → i < length weights
      → floor_at T weights i * sum weights + remainder_at T weights i ≡ T * weight_at T weights i
  put-together i lt = rw (floor-at i lt, remainder-at i lt) (div-add-mod' (T * weight_at T weights i) (sum weights))

  module _ (pos : 0 < sum weights) where
    pub floors-le : sum (floors T weights) ≤ T
    floors-le = le_of_mul-le-mul_right {k = sum weights} (omega (arith, made_up)) pos

    -- the remainders are as many times the divisor as there are units left over
    pub units-left : left_over T weights * sum weights ≡ sum (remainders T weights)
    units-left =
        omega (arith, made_up, ap (λ (n : ℕ). n * sum weights) (add-sub_of_le floors-le))

  -- ties by sizes
  module _ (sizes : List ℕ) (pos : 0 < sum weights) where
    started : Serving sizes (sum weights) (remainders T weights) (floors T weights) (left_over T weights) (remainders T weights) (floors T weights)
    started =
        record {
          long = refl;
          as_long = length-floors ∙ sym length-remainders;
          small = λ i lt. rw (remainder-at i (rw (← length-remainders) lt)) (mod-lt _ pos);
          enough = omega (arith, units-left pos);
          each = λ i lt. inl (refl, refl);
          order = λ i j li lj ei ej. absurd (omega arith);
        }

    abbrev out : List ℕ
    out = award sizes (left_over T weights) (remainders T weights) (floors T weights)

    ended : (rest : List ℕ) × Serving sizes (sum weights) (remainders T weights) (floors T weights) 0 rest out
    ended = awarded _ _ _ _ (left_over T weights) _ _ pos started

    -- each place has its floor, or one more and a remainder above 0
    served : (i : ℕ) → i < length weights
        → (get_or out i 0 ≡ floor_at T weights i) ⊎ ((get_or out i 0 ≡ floor_at T weights i + 1) × (0 < remainder_at T weights i))
    served i lt = ⊎_elim (λ w. inl w.0) (λ v. inr (v.0, v.2)) (ended.1.each i (rw length-remainders lt))

    ahead : (i j : ℕ) → i < length weights → j < length weights → get_or out i 0 ≡ floor_at T weights i + 1 → get_or out j 0 ≡ floor_at T weights j
        → Precedes (remainder_at T weights i) (get_or sizes i 0) i (remainder_at T weights j) (get_or sizes j 0) j
    ahead i j li lj = ended.1.order i j (rw length-remainders li) (rw length-remainders lj)

    whole-some : sum out ≡ T
    whole-some = omega (arith, award-sum _ _ _ _ (left_over T weights) _ _ pos started, floors-le pos)

    none-some : (i : ℕ) → i < length weights → weight_at T weights i ≡ 0 → get_or out i 0 ≡ 0
    none-some i lt e =
        let floor : floor_at T weights i ≡ 0 = rw (floor-at i lt, e, mul-zero) (zero-div _) in
        let rest : remainder_at T weights i ≡ 0 = rw (remainder-at i lt, e, mul-zero) (zero-mod _) in
        ⊎_elim (λ w. w ∙ floor) (λ v. absurd (omega (arith, v.1, rest))) (served i lt)

    within-some : T ≤ sum weights → (i : ℕ) → i < length weights → get_or out i 0 ≤ weight_at T weights i
    within-some le i lt =
        let product : T * weight_at T weights i ≤ sum weights * weight_at T weights i = mul-le-mul_right (weight_at T weights i) le in
        ⊎_elim
        (λ w. rw w (le_of_mul-le-mul_right {k = sum weights} (omega (arith, put-together i lt, product)) pos))
        (λ v. rw (v.0, add-one) (lt_of_mul-lt-mul_right (sum weights) (omega (arith, put-together i lt, product, v.1))))
        (served i lt)

    alike-some : (i j : ℕ) → i < length weights → j < length weights → weight_at T weights i ≡ weight_at T weights j → get_or out i 0 ≤ get_or out j 0 + 1
    alike-some i j li lj e =
        let same : floor_at T weights i ≡ floor_at T weights j = rw (floor-at i li, floor-at j lj, e) refl in
        let upper : get_or out i 0 ≤ floor_at T weights i + 1 = ⊎_elim (λ w. omega (arith, w)) (λ v. omega (arith, v.0)) (served i li) in
        let lower : floor_at T weights j ≤ get_or out j 0 = ⊎_elim (λ w. omega (arith, w)) (λ v. omega (arith, v.0)) (served j lj) in
        omega arith

    some : Shared T weights sizes
    some =
        record {
          long = rw (share-some T weights sizes pos) (ended.1.as_long ∙ length-remainders);
          whole = λ _. rw (share-some T weights sizes pos) whole-some;
          floor_or_next = λ i lt. rw (share-some T weights sizes pos) (⊎_elim (λ w. inl w) (λ v. inr v.0) (served i lt));
          order = λ i j li lj. rw (share-some T weights sizes pos) (ahead i j li lj);
          none = λ i lt e. rw (share-some T weights sizes pos) (none-some i lt e);
          within = λ le i lt. rw (share-some T weights sizes pos) (within-some le i lt);
          alike = λ i j li lj e. rw (share-some T weights sizes pos) (alike-some i j li lj e);
        }

  module _ (sizes : List ℕ) (zero-sum : sum weights ≡ 0) where
    zero-share : (i : ℕ) → i < length weights → get_or (share T weights sizes) i 0 ≡ 0
    zero-share i lt = rw (share-none T weights sizes zero-sum) (map_at _ weights i lt)

    zero-floor : (i : ℕ) → i < length weights → floor_at T weights i ≡ 0
    zero-floor i lt = rw (floor-at i lt, zero-sum) (div-zero _)

    none-shared : Shared T weights sizes
    none-shared =
        record {
          long = rw (share-none T weights sizes zero-sum) (length-map weights _);
          whole = λ pos. absurd (omega (arith, pos, zero-sum));
          floor_or_next = λ i lt. inl (zero-share i lt ∙ sym (zero-floor i lt));
          order = λ i j li lj ei ej. absurd (omega (arith, zero-share i li, ei));
          none = λ i lt e. zero-share i lt;
          within = λ le i lt. omega (arith, zero-share i lt);
          alike = λ i j li lj e. omega (arith, zero-share i li);
        }

  pub shared : (sizes : List ℕ) → Shared T weights sizes
  shared sizes = go (dec_lt 0 (sum weights))
    where
      go : Dec (0 < sum weights) → Shared T weights sizes
      go (yes pos) = some sizes pos
      go (no not-pos) = none-shared sizes (omega (arith, not-pos))

-- the floors that a division by the sum gives add up to at most the total
pub floors-below : (T : ℕ) (weights divided : List ℕ) (s : ℕ) → s ≡ sum weights → (s ≡ 0 → ⊥) → divided ≡ floors T weights → sum divided ≤ T
floors-below T weights divided s e some same = rw same (floors-le T weights (omega (arith, e, some)))
