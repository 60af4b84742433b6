-- `entries::entry_at` meets its contract.
-- Assumes nothing.
use native.Mathlib.Omega.{arith}
use Rattle.entries.proofs.PlaceLaws.{place-join, place-setting, place-amount, place-mark, place-index, place-rates}
use Rattle.calls.specs.Indicators.{indicators_of}
use Rattle.entries.proofs.entry_at.Goals as goal

-- a join
pub returns-then-place-lt-SETTINGS_FROM : goal.returns-then-place-lt-SETTINGS_FROM
returns-then-place-lt-SETTINGS_FROM c = rw (place-join (indicators_of c.args.kind) _ c.args.place c.if-place-lt-SETTINGS_FROM.true) c.join_entry.ensures

-- a setting
pub returns-then-place-lt-AMOUNTS_FROM : goal.returns-then-place-lt-AMOUNTS_FROM
returns-then-place-lt-AMOUNTS_FROM c = rw (place-setting (indicators_of c.args.kind) _ c.args.place (omega arith) c.if-place-lt-AMOUNTS_FROM.true) c.setting_entry.ensures

-- an amount
pub returns-then-place-lt-MARKS_FROM : goal.returns-then-place-lt-MARKS_FROM
returns-then-place-lt-MARKS_FROM c = rw (place-amount (indicators_of c.args.kind) _ c.args.place (omega arith) c.if-place-lt-MARKS_FROM.true) c.amount_entry.ensures

-- a mark
pub returns-then-place-lt-INDICES_FROM : goal.returns-then-place-lt-INDICES_FROM
returns-then-place-lt-INDICES_FROM c = rw (place-mark (indicators_of c.args.kind) _ c.args.place (omega arith) c.if-place-lt-INDICES_FROM.true) c.mark_entry.ensures

-- an index
pub returns-then-place-lt-RATES_FROM : goal.returns-then-place-lt-RATES_FROM
returns-then-place-lt-RATES_FROM c = rw (place-index (indicators_of c.args.kind) _ c.args.place (omega arith) c.if-place-lt-RATES_FROM.true) c.index_entry.ensures

-- the rates
pub returns : goal.returns
returns c = rw (place-rates (indicators_of c.args.kind) _ c.args.place (omega arith)) c.rates_entry.ensures
