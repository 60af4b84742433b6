-- The weights of an A indicator in the order of annex 9, 4.2.1, which 4.2.2 to 4.2.4 repeat for A2 to A4: five steps, of which the first two
-- stand in crates/values/specs/Sequence.antt. That they are the weights by which points are shared: `InSequence` of Laws.antt.
-- Assumes nothing.
use Rattle.std.specs.Prelude.{ℕ, ◌*◌, cond, List, get_or}
use Rattle.calls.specs.Indicators.{Indicator}
use Rattle.calls.specs.Masks.{has}
use Rattle.book.specs.declared.Book.{Book}
use Rattle.exact.specs.Division.{over}
use Rattle.exponent.specs.Weight.{weight_of}
use Rattle.values.specs.Operators.{each}
use Rattle.values.specs.Indicator.{reliable_mask}
use Rattle.values.specs.Sequence.{values_by_year, sums_of_years}
use Rattle.indicators.specs.Points.{largest, is_better, levelled}

-- 3. "genormaliseerd t.o.v. de hoogste", normalised by the highest. The annex's values from 0 to 1 are 01's k: thousandths, rounded down, and 0
-- if the highest is 0.
unfoldable pub thousandths : List ℕ → List ℕ
thousandths sums = each (λ (operator : ℕ). over (1000 * get_or sums operator 0) (largest sums))

-- 4. "de inverse exponent", the inverse exponent. 01's table stands for the annex's formula. The first weight, of k = 0, goes to whoever takes no
-- part as well, its sum being 0.
unfoldable pub exponent_weights : List ℕ → List ℕ
exponent_weights ks = each (λ (operator : ℕ). weight_of (get_or ks operator 0))

-- 5. "met betere kwaliteitsprestatie dan het gemiddelde .. onder hen gelijk herverdeeld", levelled among those better than the mean. The annex
-- levels points; here 01 decides, and levels weights, before the pool is shared by them. Who is better is told by the sums: two operators on
-- either side of the mean may have one k, and so one weight. This step gives 0 to whoever takes no part.
unfoldable pub levelled_weights : ℕ → List ℕ → List ℕ → List ℕ
levelled_weights mask sums own =
    each (λ (operator : ℕ). cond (has mask operator) (levelled (is_better mask sums) (λ (other : ℕ). get_or own other 0) operator) 0)

-- the five in turn, one a line
unfoldable pub in_sequence : Book → Indicator → List ℕ
in_sequence b indicator =
    let mask : ℕ = reliable_mask b indicator in
    let values : List (List ℕ) = values_by_year b indicator.measure in
    let sums : List ℕ = sums_of_years mask values in
    let ks : List ℕ = thousandths sums in
    let own : List ℕ = exponent_weights ks in
    levelled_weights mask sums own
