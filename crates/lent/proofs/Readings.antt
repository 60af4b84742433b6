-- A reading as the theorem about lent calls takes it, and what it promises.
-- Assumes nothing.
use mathlib.Core.Path.{◌≡◌, refl, ap}
use mathlib.Core.List.{List, [], ◌∷◌}
use denote.Builtin.{u8}
use denote.Plain.{uint_row_laws}
use mir.Syntax.{w8}
use denote.Steps.{only}
use denote.Struct.Laws as LL
use Rattle.calls.specs.Indicators.{Indicator}
use Rattle.filing.specs.Reader.{reached_by, read_as}
use Rattle.filing.specs.contracts.Progress as N
use Rattle.filing.proofs.Progress.TheLaws as N'
use Rattle.filing.specs.contracts.Reading as F
use Rattle.filing.proofs.Reading.TheLaws as F'
use Rattle.lent.proofs.Plain.{Plain, of_struct}
use Rattle.lent.proofs.Passed.{Passed, shared-slice}
use Rattle.lent.proofs.Contracts.{Paired, Promise}
use Rattle.lent.proofs.Filings.{book}

abbrev pub progress : Plain
progress = of_struct N.the_type N'.the_laws N'.the_plain N'.the_copy

abbrev pub reading : Paired book progress
reading = record {
  row = F.the_row;
  name = (F.the_type).name;
  state = λ r. r.book;
  answer = λ r. r.progress;
  both = λ b a. record { book = b; progress = a };
  state_both = λ b a. refl;
  answer_both = λ b a. refl;
  parts = λ r v is. (ap only (LL.tells F.the_type F'.the_laws r _ is), (LL.owed F.the_type F'.the_laws r _ is).0, (LL.owed F.the_type F'.the_laws r _ is).1.0);
  whole = λ b a is_b is-a. LL.owes F.the_type F'.the_laws (record { book = b; progress = a }) (is_b, (is-a, tt));
  typed = λ 𝓛 r v is. ((LL.lawful F.the_type F'.the_laws 𝓛).typed r _ is).0;
  makes = λ 𝓛. LL.makes F.the_type F'.the_plain 𝓛;
}

abbrev pub Bytes : List (Passed 1)
Bytes = shared-slice u8 (uint_row_laws w8) ∷ []

-- the book that is left, and what is told beside it, are what reading gives, into a book of a kind
abbrev pub Reads : List Indicator → Promise reading Bytes
Reads kind b xs progress b' = reached_by b' progress ≡ read_as kind b xs.0.now
