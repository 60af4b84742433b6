-- What loading a filing says of the buffer: no more bytes than it has.
-- Assumes nothing.
use Rattle.std.specs.Prelude.{ℕ, ◌≤◌, List, length, Result, IfOk}
use Rattle.load.specs.declared.Told.{Told}
use Rattle.load.specs.declared.Begun.{Begun}
use Rattle.load.specs.declared.Begun.TheVariants.{Whole, Full}

abbrev pub LoadedIn : List ℕ → Result ℕ Told → Type 0
LoadedIn buffer loaded = IfOk loaded (λ (count : ℕ). count ≤ length buffer)

abbrev pub BegunWithin : List ℕ → Begun → Type 0
BegunWithin buffer (Whole count) = count ≤ length buffer
BegunWithin buffer (Full file) = Unit {0}

abbrev pub BegunIn : List ℕ → Result Begun Told → Type 0
BegunIn buffer begun = IfOk begun (BegunWithin buffer)
