-- The definitions of `text`, and of the crates that they rest on, opened by one name, for cases that are computed.
-- Assumes nothing.
use Rattle.text.specs.Buffer.{too_short, put_into, buffer_after, fitting}
use Rattle.text.specs.Text.{bytes_of, digits, decimal, signed_decimal}
use Rattle.calls.proofs.Opened.{calls-opened}

unfoldable pub text-opened : Unit {0}
unfolding too_short put_into buffer_after fitting bytes_of digits decimal signed_decimal calls-opened
text-opened = tt
