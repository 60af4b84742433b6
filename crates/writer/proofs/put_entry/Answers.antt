-- `writer::put_entry` meets its contract.
-- Assumes nothing.
use Rattle.text.proofs.WrittenLaws.{put-nothing}
use Rattle.writer.proofs.put_entry.Goals as goal

pub returns-in-None : goal.returns-in-None
returns-in-None c = rw c.in-None.is (put-nothing c.args.out.now c.args.at)
