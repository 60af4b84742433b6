-- Demand 2 holds, as specs/Demand2.antt says.
-- Assumes nothing.
use mathlib.Core.Path.{refl}
use mathlib.Core.List.{List}
use native.Mathlib.Omega.{arith}
use Rattle.calls.specs.Indicators.{Indicator, electricity, gas}
use Rattle.book.specs.declared.Book.{Book}
use Rattle.values.specs.Indicator.{numbered_in}
use Rattle.indicators.proofs.PointLaws.{points_made_up}
use Rattle.indicators.proofs.NumberLaws.{pool-at, points-at, taken-pool, taken-points}
use Rattle.settlement.specs.Settlement.{settlement_by, settled_by}
use Rattle.settlement.specs.Laws.{Settles, points_at}
use Rattle.settlement.proofs.SettledLaws.{settles-within, settled-so}
use Rattle.writing.proofs.WrittenLaws.{written_out, fullest-exact, fullest-gas-exact}
use Rattle.guarantees.specs.Demand2.{Defined, Demand2Of, Demand2}

-- the settlement that is defined for a book has the numbers that are defined, and a book that settles gets it
defined : (b : Book) (indicators : List Indicator) → Settles b indicators → Defined b indicators (settled_by b indicators).settlement
unfolding settlement_by points_at
defined b indicators settles =
    rw (settled-so b indicators settles)
    (record {
      pools_are = refl;
      points_are = refl;
      pot_is = refl;
      contributions_are = refl;
      returns_are = refl;
      limits_are = refl;
      adjustments_are = refl;
      made_up = λ number lt taken.
          rw (pool-at b indicators number lt, points-at b indicators number lt, taken-pool b indicators number taken, taken-points b indicators number taken)
          (points_made_up b (numbered_in indicators number) (settles-within b indicators settles));
    })

demand-2-of : (kind : List Indicator) → Demand2Of kind
demand-2-of kind =
    record {
      defined = λ b. defined b kind;
      read_back = λ b ranged. (written_out kind b ranged).read_back;
      most = λ b ranged. (written_out kind b ranged).most;
    }

pub demand-2 : Demand2
demand-2 =
    record {
      of_electricity = demand-2-of electricity;
      of_gas = demand-2-of gas;
      by_list = demand-2-of;
      points_made_up = points_made_up;
      most_electricity = λ b ranged. omega (arith, (written_out electricity b ranged).most, fullest-exact.most);
      most_gas = λ b ranged. omega (arith, (written_out gas b ranged).most, fullest-gas-exact.most);
      fullest_electricity = fullest-exact;
      fullest_of_gas = fullest-gas-exact;
    }
