-- The difference of two whole numbers, as the machine computes it with signed numbers.
-- Assumes nothing.
use Prim.Native.Nat.{ℕ, ◌^◌, ◌<◌}
use mathlib.Core.Path.{◌≡◌}
use native.Mathlib.Omega.{arith}
use lib.IntN.{sub_ℕ, ◌-ℤ◌}
use mir.Syntax.{w64}
use mir.Val.{to_z, of_z}
use Rattle.std.proofs.lemmas.Bool.Decides.{nat_tests}
use Rattle.std.proofs.lemmas.Int.{ints}

pub subtracted : (gain loss : ℕ) → gain < 2 ^ 62 → loss < 2 ^ 62 → to_z w64 (of_z w64 (to_z w64 gain -ℤ to_z w64 loss)) ≡ sub_ℕ gain loss
subtracted gain loss gain-small loss-small = grind (arith, ints, nat_tests)
