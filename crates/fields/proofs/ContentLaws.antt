-- What a tag and a content say: one law for each answer.
-- Assumes nothing.
use Prim.Native.Nat.{ℕ, ◌+◌}
use mathlib.Core.Path.{◌≡◌, refl}
use mathlib.Core.Bool.{true, false}
use mathlib.Core.List.{List}
use lib.ListN.{take, drop}
use borrow.Author.Tests.{eq-eqb, ne_eqb}
use Rattle.calls.specs.Indicators.{Indicator}
use Rattle.calls.specs.Answers.{refused_by, accepted, first_of}
use Rattle.contents.specs.Content.{tagged}
use Rattle.fields.specs.Field.{call_then, has_tag}
use Rattle.fields.specs.Steps.{content_said}

module _ (kind : List Indicator) (tag size : ℕ) (bytes : List ℕ) (at : ℕ) where
  pub unknown-said : has_tag kind tag ≡ false → content_said kind tag size bytes at ≡ refused_by 2
  unfolding content_said first_of
  unknown-said e = rw e refl

  module _ (known : has_tag kind tag ≡ true) where
    pub missized-said : (size ≡ (tagged tag).size → ⊥) → content_said kind tag size bytes at ≡ refused_by 3
    unfolding content_said first_of
    missized-said differs = rw (known, ne_eqb size (tagged tag).size differs) refl

    pub call-said : size ≡ (tagged tag).size → content_said kind tag size bytes at ≡ accepted (call_then ((tagged tag).call (take size (drop at bytes))) (at + size))
    unfolding content_said first_of
    call-said same = rw (known, eq-eqb size (tagged tag).size same) refl
