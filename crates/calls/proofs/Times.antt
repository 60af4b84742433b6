-- The times of an interruption: tests on signed numbers, and the whole numbers behind them.
-- Assumes nothing.
use mathlib.Core.Path.{◌≡◌, refl, ap}
use mathlib.Core.Bool.{true, false, ◌||◌, true≢false}
use Prim.Native.Nat.{ℕ, zero, suc, ◌+◌, ◌-◌, ◌≤◌, ◌<◌}
use native.Mathlib.Omega.{arith}
use lib.Dec.{ltb}
use lib.IntN.{ℤ, pos, negsuc, neg_ℤ, ◌-ℤ◌}
use lib.Signed.{lt_z}
use mir.Syntax.{w64}
use mir.Val.{SFits, to_z, of_z}
use mir.Facts.{to_z-of_z}
use borrow.Author.Tests.{le-ltb, ltb-false}
use Rattle.calls.specs.Limits.{last_end, longest, start_before}
use Rattle.calls.specs.Call.{starts_after_end, outside_period, seconds_of, year_of}
use Rattle.calls.proofs.Flags.{or_left, or_right, or_true_right}

-- a signed number is its bits, read again
pub back : {z : ℤ} → SFits w64 z → to_z w64 (of_z w64 z) ≡ z
back fits = to_z-of_z fits

-- 15 by its tests, one after the other
module _ (start end : ℤ) where
  pub out-at-first : lt_z end (pos 0) ≡ true → outside_period start end ≡ true
  unfolding outside_period
  out-at-first e = rw e refl

  pub out-at-last : lt_z (pos last_end) end ≡ true → outside_period start end ≡ true
  unfolding outside_period
  out-at-last e = rw (e, or_true_right (lt_z end (pos 0))) refl

  pub out-early : lt_z end (pos 0) ≡ false → lt_z (pos last_end) end ≡ false → outside_period start end ≡ lt_z start (neg_ℤ (pos start_before))
  unfolding outside_period
  out-early first last = rw (first, last) refl

-- the end of an interruption that 15 lets pass
pub record Ends (end : ℤ) : Type 0 where
  pub stop : ℕ
  pub end_is : end ≡ pos stop
  pub stop_most : stop ≤ last_end

pub ends : (start end : ℤ) → outside_period start end ≡ false → Ends end
unfolding outside_period
ends start (pos stop) within =
    record {
      stop = stop;
      end_is = refl;
      stop_most = ltb-false last_end stop (or_right (ltb stop 0) _ (or_left (ltb stop 0 || ltb last_end stop) _ within));
    }
ends start (negsuc stop) within = absurd (true≢false within)

pub year_lt : {end : ℤ} → Ends end → year_of end < 3
unfolding year_of
year_lt e = rw e.end_is (omega (arith, e.stop_most))

-- how long one lasts that 14 lets pass, too
pub record Lasts (start end : ℤ) : Type 0 where
  pub length : ℕ
  pub length_is : end -ℤ start ≡ pos length
  pub length_most : length ≤ longest

difference : (e s : ℕ) → s ≤ e → pos e -ℤ pos s ≡ pos (e - s)
difference e zero le = ap pos (omega arith)
difference e (suc s) le = rw (le-ltb e (suc s) le) refl

lasting : (start : ℤ) (stop : ℕ) → stop ≤ last_end → starts_after_end start (pos stop) ≡ false → outside_period start (pos stop) ≡ false → Lasts start (pos stop)
unfolding starts_after_end outside_period
lasting (pos s) stop most ordered within =
    record { length = stop - s; length_is = difference stop s (ltb-false stop s ordered); length_most = omega (arith, most) }
lasting (negsuc s) stop most ordered within =
    let early : s ≤ start_before - 1 = ltb-false (start_before - 1) s (or_right (ltb stop 0 || ltb last_end stop) _ within) in
    record { length = stop + suc s; length_is = refl; length_most = omega (arith, most, early) }

pub lasts : (start end : ℤ) → starts_after_end start end ≡ false → outside_period start end ≡ false → Lasts start end
lasts start end ordered within =
    let e = ends start end within in
    rw e.end_is (lasting start e.stop e.stop_most (rw e.end_is at ordered) (rw e.end_is at within))

pub seconds_most : {start end : ℤ} → Lasts start end → seconds_of start end ≤ longest
unfolding seconds_of
seconds_most l = rw l.length_is (omega (arith, l.length_most))
