-- `lines::lines::put_if_joined` meets its contract.
-- Assumes nothing.
use Rattle.calls.proofs.Flags.{denied, granted}
use Rattle.text.proofs.WrittenLaws.{put-nothing}
use Rattle.lines.proofs.lines.put_if_joined.Goals as goal

pub returns-then-not-is_joined : goal.returns-then-not-is_joined
returns-then-not-is_joined c = rw (denied c.is_joined.ensures c.if-not-is_joined.true-raw) (put-nothing _ _)

pub put_operator-requires : goal.put_operator-requires
put_operator-requires c =
    record { printable = c.requires.printable; known = c.requires.known; room = rw (granted c.is_joined.ensures c.if-not-is_joined.false-raw) at c.requires.room }

pub returns : goal.returns
returns c = rw (granted c.is_joined.ensures c.if-not-is_joined.false-raw) c.put_operator.ensures
