-- `calls::kinds::is_network` meets its contract.
-- Assumes nothing.
use borrow.Author.Rules.{rules}
use borrow.Author.Tests.{eq-eqb, ne_eqb}
use mathlib.Core.Path.{refl}
use Rattle.calls.proofs.KindLaws.{network-taken}
use Rattle.calls.proofs.kinds.is_network.Goals as goal

pub returns-then-which-ne2 : goal.returns-then-which-ne2
returns-then-which-ne2 c =
    rw (network-taken c.args.kind c.args.which (search rules), ne_eqb c.args.which 2 c.if-which-ne2.true)
    c.takes_setting.ensures

pub returns-else-which-ne2 : goal.returns-else-which-ne2
returns-else-which-ne2 c = rw (network-taken c.args.kind c.args.which (search rules), eq-eqb c.args.which 2 c.if-which-ne2.false) refl
