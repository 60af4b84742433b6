-- What a left-out interruption enters, and the causes under which none is left out.
-- Assumes nothing.
use mathlib.Core.Path.{◌≡◌, refl}
use mathlib.Core.Bool.{false, ◌&&◌}
use mathlib.Core.List.{[], ◌∷◌}
use Prim.Native.Nat.{ℕ, zero, suc, ◌<◌}
use native.Mathlib.Omega.{arith}
use lib.Dec.{leb}
use borrow.Author.Tests.{lt-leb}
use Rattle.calls.specs.declared.Reason.{Reason}
use Rattle.calls.specs.declared.Reason.TheVariants.{Short, Planned, Coupled, Exceptional}
use Rattle.calls.specs.Limits.{figure_count}
use Rattle.calls.specs.Answers.{left_out_as}
use Rattle.calls.specs.Call.{entry, measured_entries, count_figure, interruption_entries}
use Rattle.calls.proofs.Flags.{and-false-right}

-- a left-out interruption enters its count, and nothing else
pub left-out-counted : (operator sign level weight seconds year : ℕ) (reason : Reason)
    → interruption_entries operator sign level weight seconds year (left_out_as reason) ≡ entry operator year (count_figure (left_out_as reason)) sign 1 ∷ []
unfolding interruption_entries measured_entries
left-out-counted operator sign level weight seconds year Short = refl
left-out-counted operator sign level weight seconds year Planned = refl
left-out-counted operator sign level weight seconds year Coupled = refl
left-out-counted operator sign level weight seconds year Exceptional = refl

-- its count is a figure of the book
pub left-out-known : (reason : Reason) → count_figure (left_out_as reason) < figure_count
unfolding count_figure
left-out-known Short = omega arith
left-out-known Planned = omega arith
left-out-known Coupled = omega arith
left-out-known Exceptional = omega arith

-- any cause but 1, 2 and 3
pub other-cause : (cause : ℕ) → (cause ≡ 1 → ⊥) → (cause ≡ 2 → ⊥) → (cause ≡ 3 → ⊥) → leb 1 cause && leb cause 3 ≡ false
other-cause zero not-one not-two not_three = refl
other-cause (suc n) not-one not-two not_three = rw (lt-leb (suc n) 3 (omega arith)) (and-false-right (leb 1 (suc n)))
