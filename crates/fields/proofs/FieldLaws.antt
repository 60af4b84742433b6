-- What stands at an offset: one law for each answer of the field reader, and where each answer leaves the offset.
-- Assumes nothing.
use Prim.Native.Nat.{ℕ, ◌+◌, ◌-◌, ◌≤◌, ◌<◌}
use mathlib.Core.Path.{◌≡◌, refl}
use mathlib.Core.Bool.{Bool, true, false, cond, not, ◌||◌}
use mathlib.Core.List.{List}
use native.Mathlib.Omega.{arith}
use lib.Dec.{eqb, ltb}
use lib.ListN.{length, take, drop}
use borrow.Author.Tests.{lt-ltb, le-ltb, eq-eqb, ne_eqb, ltb-false, eqb-true, eqb-false}
use Rattle.calls.specs.declared.Call.{Call}
use Rattle.calls.specs.Indicators.{Indicator}
use Rattle.calls.specs.Answers.{Said, refused_by, accepted, first_of}
use Rattle.contents.specs.Content.{byte, unsigned, tagged}
use Rattle.fields.specs.Field.{Found, at_end, call_then, has_tag, field_lines, call_at, field_in}
use Rattle.fields.specs.Steps.{content_said}

-- how an answer leaves the offset: a call ends 3 bytes on or more and does not pass the end
abbrev pub Stands : List ℕ → ℕ → Said Found → Type 0
Stands bytes at (accepted (call_then call next)) = (at + 3 ≤ next) × (next ≤ length bytes)
Stands bytes at (accepted at_end) = length bytes ≤ at
Stands bytes at (refused_by number) = Unit {0}

module _ (kind : List Indicator) (bytes : List ℕ) (at : ℕ) where
  abbrev left : ℕ
  left = length bytes - at

  abbrev size : ℕ
  size = unsigned 2 bytes (at + 1)

  abbrev tag : ℕ
  tag = byte bytes at

  pub ends : length bytes ≤ at → field_in kind bytes at ≡ accepted at_end
  unfolding field_in field_lines first_of call_at
  ends le = rw (eq-eqb left 0 (omega arith)) refl

  module _ (more : at < length bytes) where
    some_left : eqb left 0 ≡ false
    some_left = ne_eqb left 0 (λ e. omega arith)

    one-or-two : left < 3 → eqb left 1 || eqb left 2 ≡ true
    one-or-two lt = go (eqb left 1) refl
      where
        go : (one : Bool) → eqb left 1 ≡ one → one || eqb left 2 ≡ true
        go true one = refl
        go false more-or-none = eq-eqb left 2 (omega (arith, eqb-false left 1 more-or-none))

    pub no_length : left < 3 → field_in kind bytes at ≡ refused_by 1
    unfolding field_in field_lines first_of call_at
    no_length lt = rw (some_left, one-or-two lt) refl

    module _ (whole : 3 ≤ left) where
      three-or-more : eqb left 1 || eqb left 2 ≡ false
      three-or-more = rw (ne_eqb left 1 (λ e. omega arith), ne_eqb left 2 (λ e. omega arith)) refl

      pub passes-end : left - 3 < size → field_in kind bytes at ≡ refused_by 1
      unfolding field_in field_lines first_of call_at
      passes-end lt = rw (some_left, three-or-more, lt-ltb (left - 3) size lt) refl

      module _ (within : size ≤ left - 3) where
        pub framed : field_in kind bytes at ≡ content_said kind tag size bytes (at + 3)
        unfolding field_in field_lines first_of call_at content_said
        framed = rw (some_left, three-or-more, le-ltb (left - 3) size within) refl

        module _ (known : has_tag kind tag ≡ true) where
          pub filed : size ≡ (tagged tag).size → field_in kind bytes at ≡ accepted (call_then ((tagged tag).call (take size (drop (at + 3) bytes))) (at + 3 + size))
          unfolding field_in field_lines first_of call_at
          filed same = rw (some_left, three-or-more, le-ltb (left - 3) size within, known, eq-eqb size (tagged tag).size same) refl

  pub stands : Stands bytes at (field_in kind bytes at)
  unfolding field_in field_lines first_of call_at
  stands =
      go (eqb left 0) (eqb left 1) (eqb left 2) (ltb (left - 3) size) (not (has_tag kind tag)) (not (eqb size (tagged tag).size)) _ refl refl refl refl
    where
      go : (none one two long unknown wrong : Bool) (call : Call) → eqb left 0 ≡ none → eqb left 1 ≡ one → eqb left 2 ≡ two → ltb (left - 3) size ≡ long
          → Stands bytes at
          (cond none (accepted at_end)
          (cond (one || two || long) (refused_by 1)
          (cond unknown (refused_by 2) (cond wrong (refused_by 3) (accepted (call_then call (at + 3 + size)))))))
      go true one two long unknown wrong call none_left o t l = omega (arith, eqb-true left 0 none_left)
      go false true two long unknown wrong call n o t l = tt
      go false false true long unknown wrong call n o t l = tt
      go false false false true unknown wrong call n o t l = tt
      go false false false false true wrong call n o t l = tt
      go false false false false false true call n o t l = tt
      go false false false false false false call n o t l =
          let whole : 3 ≤ left = omega (arith, eqb-false left 0 n, eqb-false left 1 o, eqb-false left 2 t) in
          let within : size ≤ left - 3 = ltb-false (left - 3) size l in
          (omega arith, omega arith)
