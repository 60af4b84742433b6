-- Sharing a total by weights with largest remainders: document 01's "Sharing T by weights". Places stand for operators, sizes for the measure
-- that decides between equal remainders.
-- Assumes nothing.
use Rattle.std.specs.Prelude.{ℕ, zero, suc, ◌+◌, ◌-◌, ◌*◌, ◌/◌, ◌%◌, Bool, cond, ◌&&◌, ◌||◌, List, map, ltb, eqb, length, get_or, set}
use Rattle.apportion.specs.Sum.{sum}

-- "T × weight / (sum of weights) rounded down", at each place
unfoldable pub floors : ℕ → List ℕ → List ℕ
floors T weights = map (λ (weight : ℕ). T * weight / sum weights) weights

-- what that division leaves, at each place
unfoldable pub remainders : ℕ → List ℕ → List ℕ
remainders T weights = map (λ (weight : ℕ). T * weight % sum weights) weights

-- whether a comes before b: the larger does, and at a tie what is asked next decides
unfoldable pub larger_first : ℕ → ℕ → Bool → Bool
larger_first a b next = ltb b a || (eqb a b && next)

-- whether place i with remainder r and size x is served before place j with remainder q and size y: "the largest remainders"; where "two
-- remainders are equal .. the operator with more access points, and only then .. the lower number" (02, point 7)
unfoldable pub precedes : ℕ → ℕ → ℕ → ℕ → ℕ → ℕ → Bool
precedes r x i q y j = larger_first r q (larger_first x y (ltb i j))

-- the one of places i and best that is served first
unfoldable pub earlier : List ℕ → List ℕ → ℕ → ℕ → ℕ
earlier sizes remaining i best =
    cond (precedes (get_or remaining i 0) (get_or sizes i 0) i (get_or remaining best 0) (get_or sizes best 0) best) i best

-- the one of the first n places that is served first
unfoldable pub foremost : List ℕ → List ℕ → ℕ → ℕ
foremost sizes remaining zero = 0
foremost sizes remaining (suc n) = earlier sizes remaining n (foremost sizes remaining n)

-- units handed out one each: the foremost place gets one, and its remainder is spent
unfoldable pub award : List ℕ → ℕ → List ℕ → List ℕ → List ℕ
award sizes zero remaining shares = shares
award sizes (suc units) remaining shares =
    let place : ℕ = foremost sizes remaining (length remaining) in
    award sizes units (set remaining place 0) (set shares place (get_or shares place 0 + 1))

-- the shares of T by weights, with the sizes that decide at a tie: the floors, and "the units left over"; "All weights 0: all get 0"
unfoldable pub share : ℕ → List ℕ → List ℕ → List ℕ
share T weights sizes =
    cond (eqb (sum weights) 0) (map (λ (weight : ℕ). 0) weights) (award sizes (T - sum (floors T weights)) (remainders T weights) (floors T weights))
