-- `reader::read_from_as` meets its contract.
-- Assumes nothing.
use mathlib.Core.Path.{◌≡◌, refl}
use mathlib.Core.Bool.{false}
use Rattle.calls.specs.Indicators.{indicators_of}
use Rattle.book.specs.Book.{in_range}
use Rattle.filing.specs.Reader.{read_from_as}
use Rattle.reader.proofs.read_from_as.Goals as goal

-- 5, of the book
pub returns-in-None : goal.returns-in-None
unfolding read_from_as
returns-in-None c =
    let start = c.args in
    let none : in_range (indicators_of start.kind) start.b ≡ false = c.in-None.ensures in
    rw none refl

pub returns-in-Some : goal.returns-in-Some
returns-in-Some c = rw (c.in-Some.ensures.0, c.in-Some.ensures.1) at c.read_fields-progress.ensures
