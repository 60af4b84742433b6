-- `walker::readings::read` meets its contract.
-- Assumes nothing.
use Rattle.std.proofs.Common.{ap, ◌∙◌}
use Rattle.filing.specs.Reader.{read_from, read_as}
use Rattle.walker.specs.declared.Walker.{Walker}
use Rattle.walker.proofs.readings.read.Goals as goal

pub returns : goal.returns
unfolding read_as
returns c = c.read_on.ensures ∙ ap (λ (w : Walker). read_from c.args.b w.bytes.now w.offset) c.walker_over.ensures
