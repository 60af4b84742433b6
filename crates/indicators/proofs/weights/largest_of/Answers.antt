-- `indicators::weights::largest_of` meets its contract.
-- Assumes nothing.
use mathlib.Core.Path.{◌≡◌, refl, subst}
use borrow.Author.Rules.{rules}
use Rattle.std.proofs.lemmas.Fn.{fold_over, slice_gives, fronts}
use Rattle.indicators.specs.Points.{largest}
use Rattle.indicators.proofs.Largest.{largest-push}
use Rattle.indicators.proofs.weights.largest_of.Goals as goal

pub returns : goal.returns
unfolding largest
returns c =
    subst (λ list. c.fold.result ≡ largest list) c.iter.ensures.rest
    (fold_over fronts (λ y. y.now) _ (λ ys top. top ≡ largest ys) _ (λ ys a x b f' so_far call. let more = largest-push ys x.now in search rules) _ _ _ _
    (slice_gives c.iter.result) refl c.fold.ensures.ran)
