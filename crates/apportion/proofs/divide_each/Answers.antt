-- `apportion::divide_each` meets its contract.
-- Assumes nothing.
use borrow.Author.Rules.{rules}
use mathlib.Core.Path.{◌≡◌, sym, ap, ◌∙◌}
use mathlib.Core.List.{List, map}
use Prim.Native.Nat.{ℕ, ◌*◌, ◌/◌, ◌%◌, ◌<◌}
use native.Mathlib.Omega.{arith}
use lib.ListN.{length, get_or, length-map}
use Rattle.std.proofs.lemmas.List.{ext_get_or, get_or-map}
use Rattle.exact.specs.declared.Division.{Division}
use Rattle.apportion.specs.Share.{floors, remainders}
use Rattle.apportion.proofs.FromFn.{made_at}
use Rattle.apportion.proofs.Shared.{floor-at, remainder-at, length-floors, length-remainders}
use Rattle.apportion.proofs.divide_each.Goals as goal

-- the division at a place
abbrev divided : ℕ → List ℕ → ℕ → ℕ → Division
divided t weights s k = record { quotient = t * get_or weights k 0 / s; remainder = t * get_or weights k 0 % s }

-- an array of such divisions shows what the definition lists
viewed : (v : Division → ℕ) (all : List Division) (d : Division) (target : List ℕ) → length all ≡ 16 → length target ≡ 16
    → ((k : ℕ) → k < 16 → v (get_or all k d) ≡ get_or target k 0) → map v all ≡ target
viewed v all d target long as_long same =
    ext_get_or 0 (map v all) target (length-map all v ∙ long ∙ sym as_long)
    (λ k lt. let within : k < length all = omega (arith, lt, length-map all v) in get_or-map v all k d 0 within ∙ same k (omega arith))

pub returns : goal.returns
returns c =
    let weights = c.args.weights in
    let long : length weights ≡ 16 = search rules in
    let none : Division = record { quotient = 0; remainder = 0 } in
    -- the total by which the closure divides is found, and compared with t
    let each : (k : ℕ) → k < 16 → get_or c.from_fn.result k none ≡ divided c.args.t weights c.args.s k =
    λ k lt.
    made_at _ _ 16 (divided c.args.t weights c.args.s)
    (λ i y q small call. let told : (total : ℕ) × (y ≡ divided total weights c.args.s i) = search rules in (told.1, search rules))
    c.from_fn.result c.from_fn.ensures.items none k lt in
    let by_sum = c.requires.divisor_is in (
      viewed (λ (d : Division). d.quotient) c.from_fn.result none (floors c.args.t weights) c.from_fn.ensures.items.long (length-floors c.args.t weights ∙ long)
          (λ k lt. ap (λ (d : Division). d.quotient) (each k lt) ∙ rw by_sum (sym (floor-at c.args.t weights k (omega arith)))),
      viewed (λ (d : Division). d.remainder) c.from_fn.result none (remainders c.args.t weights) c.from_fn.ensures.items.long (length-remainders c.args.t weights ∙ long)
          (λ k lt. ap (λ (d : Division). d.remainder) (each k lt) ∙ rw by_sum (sym (remainder-at c.args.t weights k (omega arith)))),
    )
