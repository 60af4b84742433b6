-- The book, an answer and a core's result as the theorem about lent calls takes them, the seven calls, and what each promises.
-- Assumes nothing.
use mathlib.Core.Path.{refl, ap}
use mathlib.Core.List.{List, [], ◌∷◌}
use mir.Syntax.{w8, w32, w64}
use denote.Struct.Laws as LL
use denote.Steps.{only}
use Rattle.calls.specs.declared.Call.{Call}
use Rattle.calls.specs.declared.Call.TheVariants.{Join, Setting, Interruption, Amount, Mark, Rates, Index}
use Rattle.calls.specs.Indicators.{Indicator}
use Rattle.ledger.specs.Filed.{FilesAs}
use Rattle.book.specs.contracts.Book as B
use Rattle.book.proofs.Book.TheLaws as B'
use Rattle.calls.specs.contracts.Call as C
use Rattle.calls.proofs.Call.TheLaws as C'
use Rattle.calls.specs.contracts.Answer as N
use Rattle.calls.proofs.Answer.TheLaws as N'
use Rattle.bookkeeping.specs.contracts.Answered as F
use Rattle.bookkeeping.proofs.Answered.TheLaws as F'
use Rattle.lent.proofs.Plain.{Plain, unsigned, signed, of_struct, of-enum}
use Rattle.lent.proofs.Passed.{Passed, by_value, Values}
use Rattle.lent.proofs.Contracts.{Paired, Promise}

-- the further parameters
abbrev u8 : Passed 0
u8 = by_value (unsigned w8)

abbrev u32 : Passed 0
u32 = by_value (unsigned w32)

abbrev u64 : Passed 0
u64 = by_value (unsigned w64)

abbrev i64 : Passed 0
i64 = by_value (signed w64)

abbrev pub book : Plain
book = of_struct B.the_type B'.the_laws B'.the_plain B'.the_copy

abbrev pub answer : Plain
answer = of-enum N.the_type N'.the_laws tt N'.the_plain N'.the_copy

abbrev pub filed : Paired book answer
filed = record {
  row = F.the_row;
  name = (F.the_type).name;
  state = λ r. r.book;
  answer = λ r. r.answer;
  both = λ b a. record { book = b; answer = a };
  state_both = λ b a. refl;
  answer_both = λ b a. refl;
  parts = λ r v is. (ap only (LL.tells F.the_type F'.the_laws r _ is), (LL.owed F.the_type F'.the_laws r _ is).0, (LL.owed F.the_type F'.the_laws r _ is).1.0);
  whole = λ b a is_b is-a. LL.owes F.the_type F'.the_laws (record { book = b; answer = a }) (is_b, (is-a, tt));
  typed = λ 𝓛 r v is. ((LL.lawful F.the_type F'.the_laws 𝓛).typed r _ is).0;
  makes = λ 𝓛. LL.makes F.the_type F'.the_plain 𝓛;
}

-- ---- each call: the types of its further parameters, and the call that their values make
pub record CallOf : Type 2 where
  pub params : List (Passed 0)
  pub call : Values params → Call

abbrev pub join : CallOf
join = record { params = u8 ∷ []; call = λ xs. Join xs.0 }

abbrev pub setting : CallOf
setting = record { params = u8 ∷ u8 ∷ u64 ∷ []; call = λ xs. Setting xs.0 xs.1.0 xs.1.1.0 }

abbrev pub interruption : CallOf
interruption = record {
  params = u8 ∷ u8 ∷ u8 ∷ u8 ∷ i64 ∷ i64 ∷ u32 ∷ [];
  call = λ xs. Interruption xs.0 xs.1.0 xs.1.1.0 xs.1.1.1.0 xs.1.1.1.1.0 xs.1.1.1.1.1.0 xs.1.1.1.1.1.1.0;
}

abbrev pub amount : CallOf
amount = record { params = u8 ∷ u8 ∷ u8 ∷ u8 ∷ u64 ∷ []; call = λ xs. Amount xs.0 xs.1.0 xs.1.1.0 xs.1.1.1.0 xs.1.1.1.1.0 }

abbrev pub mark : CallOf
mark = record { params = u8 ∷ u8 ∷ u8 ∷ []; call = λ xs. Mark xs.0 xs.1.0 xs.1.1.0 }

abbrev pub rates : CallOf
rates = record { params = u32 ∷ u32 ∷ []; call = λ xs. Rates xs.0 xs.1.0 }

abbrev pub index : CallOf
index = record { params = u8 ∷ u32 ∷ []; call = λ xs. Index xs.0 xs.1.0 }

-- any of them at hand as a value
abbrev pub any_call : CallOf
any_call = record { params = by_value (of-enum C.the_type C'.the_laws tt C'.the_plain C'.the_copy) ∷ []; call = λ xs. xs.0 }

-- what each promises of its parameters, on a book of a kind
abbrev pub FilesBy : List Indicator → (c : CallOf) → Promise filed c.params
FilesBy kind c b xs a b' = FilesAs kind b (c.call xs) a b'
