-- The definitions of `contents`, and of the crates that they rest on, opened by one name, for cases that are computed.
-- Assumes nothing.
use Rattle.contents.specs.Content.{big_endian, unsigned, twos_complement, signed, tags, is_known, tagged}
use Rattle.calls.proofs.Opened.{calls-opened}

unfoldable pub contents-opened : Unit {0}
unfolding big_endian unsigned twos_complement signed tags is_known tagged calls-opened
contents-opened = tt
