-- Boolean tests put together, and flags that the code computed and tested.
-- Assumes nothing.
use mathlib.Core.Path.{◌≡◌, refl, sym, ap, ◌∙◌}
use mathlib.Core.Bool.{Bool, true, false, not, ◌&&◌, ◌||◌, false≢true}
use borrow.Author.Tests.{not-true, not-false}

-- two tests that are both true
pub and-true : {s t : Bool} → s ≡ true → t ≡ true → s && t ≡ true
and-true p q = rw (p, q) refl

pub and_left : (s t : Bool) → s && t ≡ true → s ≡ true
and_left true t e = refl
and_left false t e = absurd (false≢true e)

pub and_right : (s t : Bool) → s && t ≡ true → t ≡ true
and_right true t e = e
and_right false t e = absurd (false≢true e)

-- a test that is false together with a true one
pub and-other : (s t : Bool) → s ≡ true → s && t ≡ false → t ≡ false
and-other true t p e = e
and-other false t p e = absurd (false≢true p)

pub and-true-right : (t : Bool) → t && true ≡ t
and-true-right true = refl
and-true-right false = refl

pub and-false-right : (t : Bool) → t && false ≡ false
and-false-right true = refl
and-false-right false = refl

pub or-false-right : (t : Bool) → t || false ≡ t
or-false-right true = refl
or-false-right false = refl

pub or_true_right : (t : Bool) → t || true ≡ true
or_true_right true = refl
or_true_right false = refl

pub or_left : (s t : Bool) → s || t ≡ false → s ≡ false
or_left true t e = absurd (false≢true (sym e))
or_left false t e = refl

pub or_right : (s t : Bool) → s || t ≡ false → t ≡ false
or_right true t e = absurd (false≢true (sym e))
or_right false t e = e

-- two tests, each of which holds if the other does
pub same_test : (s t : Bool) → (s ≡ true → t ≡ true) → (t ≡ true → s ≡ true) → s ≡ t
same_test true t forth back = sym (forth refl)
same_test false true forth back = back refl
same_test false false forth back = refl

-- both halves of a test that holds
pub both : (a b : Bool) → a && b ≡ true → (a ≡ true) × (b ≡ true)
both a b e = (and_left a b e, and_right a b e)

-- a value that the code computed as r and tested by `!r`
pub denied : {r value : Bool} → r ≡ value → not r ≡ true → value ≡ false
denied {r} e flag = sym e ∙ not-true r flag

pub granted : {r value : Bool} → r ≡ value → not r ≡ false → value ≡ true
granted {r} e flag = sym e ∙ not-false r flag

pub negated : {r value t : Bool} → r ≡ value → not r ≡ t → not value ≡ t
negated e flag = ap not (sym e) ∙ flag
