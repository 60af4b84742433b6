-- Every marked case holds: each is computed from the definitions.
-- Assumes nothing.
use Prim.Native.Nat.{ℕ, ◌+◌, ◌≤◌}
use mathlib.Core.Bool.{false}
use mathlib.Core.Path.{◌≡◌, refl, sym, ap, ◌∙◌}
use mathlib.Core.List.{List, [], ◌∷◌, ◌++◌, map}
use native.Mathlib.Omega.{arith}
use lib.IntN.{ℤ, pos, neg_ℤ}
use lib.Dec.{ltb}
use lib.ListN.{length, take, get_or, set}
use Rattle.apportion.specs.Sum.{sum}
use Rattle.apportion.specs.Share.{floors, remainders, precedes, foremost, award, share}
use Rattle.apportion.proofs.Order.{tied, foremost-one, foremost-more}
use Rattle.calls.specs.Limits.{years}
use Rattle.calls.specs.Indicators.{Measure, Indicator, electricity, gas}
use Rattle.values.specs.Operators.{table}
use Rattle.values.specs.Indicator.{yearly_value, numbered, numbered_in}
use Rattle.calls.specs.Answers.{Said, refused_by, accepted, Acceptance, yes_said, on_answer}
use Rattle.book.specs.declared.Book.{Book}
use Rattle.book.specs.Book.{fresh_book, figure_of}
use Rattle.settlement.specs.Settlement.{settled, settled_gas, settled_by}
use Rattle.settlement.specs.Laws.{points_at}
use Rattle.filing.specs.Reader.{reading, read_as, read}
use Rattle.filing.proofs.Opened.{filing-opened}
use Rattle.text.proofs.Opened.{text-opened}
use Rattle.report.specs.Report.{text_as}
use Rattle.output.specs.Output.{refused_by_number, refused_field, settlement_text_as, reading_text, printed_as, output_as, output_of, gas_output_of}
use Rattle.output.proofs.OutputLaws.{printed-refused}
use Rattle.output.proofs.Opened.{output-opened}
use Rattle.ledger.specs.Calls.{filed_answers}
use Rattle.history.specs.Demand.{book_of}
use Rattle.calls.specs.declared.Call.{Call}
use Rattle.calls.specs.declared.Call.TheVariants.{Join, Setting, Amount, Mark}
use Rattle.writer.specs.Writer.{writer_answer}
use Rattle.writer.proofs.Opened.{writer-opened}
use Rattle.marked.specs.Marked.{lasting, gas_said_to, gas_cases, gas_settled, case_m, filing_m, lines_m, newcomer, six_marks, losing, growing, frequencies_of, fees_alone, fees_of, two_adjusted, pot_of_two, cabins_of_two, cut_three, refused_filings, Answered, time_cases, tied_cases, marked, All}
use Rattle.marked.proofs.AppliedLaws.{applied_from, answers_from, book-of, answers_of}

-- what a call is answered after operator 0 has joined
answered : {answer : Said Acceptance} (kind : List Indicator) (call : Call) → get_or (answers_from kind fresh_book (Join 0 ∷ call ∷ [])) 1 (refused_by 0) ≡ answer
    → get_or (filed_answers kind fresh_book (Join 0 ∷ call ∷ [])) 1 (refused_by 0) ≡ answer
answered kind call same = ap (λ (answers : List (Said Acceptance)). get_or answers 1 (refused_by 0)) (answers_of kind (Join 0 ∷ call ∷ [])) ∙ same

-- a filing refused at a field: what is printed needs no settlement
refused-example : (kind : List Indicator) (bytes : List ℕ) (number : ℕ) (text : List ℕ) → length bytes ≤ 65536 → (read_as kind fresh_book bytes).said ≡ refused_by number
    → refused_field number (read_as kind fresh_book bytes).offset ≡ text → output_as kind bytes ≡ text
unfolding output_as
refused-example kind bytes number text short refused same = sym (printed-refused kind (settlement_text_as kind) bytes short number refused) ∙ same

filings-refused : All refused_filings
unfolding filing-opened text-opened refused_by_number refused_field
filings-refused = (
  refused-example electricity (1 ∷ 0 ∷ 1 ∷ 16 ∷ []) 4 _ (omega arith) refl refl,
  (
    refused-example electricity (1 ∷ 0 ∷ []) 1 _ (omega arith) refl refl,
    (
      refused-example electricity (99 ∷ 0 ∷ 0 ∷ []) 2 _ (omega arith) refl refl,
      (
        refused-example electricity (1 ∷ 0 ∷ 2 ∷ 0 ∷ 0 ∷ []) 3 _ (omega arith) refl refl,
        (
          refused-example electricity (5 ∷ 0 ∷ 3 ∷ 0 ∷ 6 ∷ 1 ∷ []) 5 _ (omega arith) refl refl,
          (
            refused-example electricity (1 ∷ 0 ∷ 1 ∷ 0 ∷ 1 ∷ 0 ∷ 1 ∷ 0 ∷ []) 6 _ (omega arith) refl refl,
            (refused-example electricity (5 ∷ 0 ∷ 3 ∷ 0 ∷ 0 ∷ 1 ∷ []) 7 _ (omega arith) refl refl, tt),
          ),
        ),
      ),
    ),
  ),
)

-- M's bytes are read to their end, and leave the book that M's calls, applied, leave
read-m : read fresh_book filing_m ≡ reading (applied_from electricity fresh_book (case_m 10000)) 27 251 (accepted yes_said)
unfolding filing-opened applied_from
read-m = refl

settles-m : (settled (applied_from electricity fresh_book (case_m 10000))).said ≡ accepted yes_said
unfolding output-opened applied_from
settles-m = refl

printed-m : text_as electricity (applied_from electricity fresh_book (case_m 10000)) ≡ lines_m
unfolding output-opened applied_from
printed-m = refl

output-m : output_of filing_m ≡ lines_m
unfolding output_as printed_as reading_text settlement_text_as on_answer
output-m = rw (read-m, settles-m) printed-m

-- what is taken of the book that calls leave
after : {A : Type 0} {value : A} (kind : List Indicator) (taken : Book → A) (calls : List Call) → taken (applied_from kind fresh_book calls) ≡ value
    → taken (book_of kind calls) ≡ value
after kind taken calls same = ap taken (book-of kind calls) ∙ same

-- M with cap rate 50, the two networks, and fees in a year without connections: what two operators are adjusted by
abbrev adjusted : Book → List ℤ
adjusted b = take 2 (settled b).settlement.adjustments

adjusted-after : {amounts : List ℤ} (calls : List Call) → adjusted (applied_from electricity fresh_book calls) ≡ amounts → two_adjusted calls ≡ amounts
adjusted-after calls same = after electricity adjusted calls same

cut-m : two_adjusted (case_m 50) ≡ pos 5000 ∷ neg_ℤ (pos 5000) ∷ []
unfolding output-opened applied_from
cut-m = adjusted-after (case_m 50) refl

adjusted-grown : two_adjusted growing ≡ neg_ℤ (pos 70762) ∷ pos 70762 ∷ []
unfolding output-opened applied_from
adjusted-grown = adjusted-after growing refl

adjusted-fees : two_adjusted (fees_alone 10000) ≡ pos 10015 ∷ neg_ℤ (pos 10015) ∷ []
unfolding output-opened applied_from
adjusted-fees = adjusted-after (fees_alone 10000) refl

adjusted-fees-indexed : two_adjusted (fees_alone 12500) ≡ pos 10329 ∷ neg_ℤ (pos 10329) ∷ []
unfolding output-opened applied_from
adjusted-fees-indexed = adjusted-after (fees_alone 12500) refl

-- what settling says of the book that calls leave
said-after : {answer : Said Acceptance} (calls : List Call) → (settled (applied_from electricity fresh_book calls)).said ≡ answer → (settled (book_of electricity calls)).said ≡ answer
said-after calls same = after electricity (λ (b : Book). (settled b).said) calls same

marked-six : (settled (book_of electricity six_marks)).said ≡ refused_by 12
unfolding output-opened applied_from
marked-six = said-after six_marks refl

joined-only : (settled (book_of electricity (Join 0 ∷ []))).said ≡ refused_by 11
unfolding output-opened applied_from
joined-only = said-after (Join 0 ∷ []) refl

joined-new : (settled (book_of electricity (newcomer []))).said ≡ refused_by 12
unfolding output-opened applied_from
joined-new = said-after (newcomer []) refl

cleared-one : (settled (book_of electricity (newcomer (Mark 0 0 0 ∷ [])))).said ≡ accepted yes_said
unfolding output-opened applied_from
cleared-one = said-after (newcomer (Mark 0 0 0 ∷ [])) refl

-- whichever it loses, 11 is given
lost : All (map (λ (which : ℕ). (settled (book_of electricity (losing which))).said ≡ refused_by 11) (0 ∷ 3 ∷ 4 ∷ 1 ∷ []))
unfolding output-opened applied_from
lost = (said-after (losing 0) refl, (said-after (losing 3) refl, (said-after (losing 4) refl, (said-after (losing 1) refl, tt))))

-- A1 of the growing network, and of the shrinking one
grown-applied : (table years (yearly_value (applied_from electricity fresh_book growing) (numbered 0).measure 0) ≡ 50000 ∷ 45000 ∷ 100000 ∷ [])
    × (table years (yearly_value (applied_from electricity fresh_book growing) (numbered 0).measure 1) ≡ 42500 ∷ 40000 ∷ 60000 ∷ [])
unfolding output-opened applied_from
grown-applied = (refl, refl)

grown : (operator : ℕ) → frequencies_of operator ≡ table years (yearly_value (applied_from electricity fresh_book growing) (numbered 0).measure operator)
grown operator = ap (λ (b : Book). table years (yearly_value b (numbered 0).measure operator)) (book-of electricity growing)

-- D1 in a year without connections, with two indices
fees-applied : (table years (yearly_value (applied_from electricity fresh_book (fees_alone 10000)) (numbered 4).measure 0) ≡ 0 ∷ 1000 ∷ 0 ∷ [])
    × (table years (yearly_value (applied_from electricity fresh_book (fees_alone 12500)) (numbered 4).measure 0) ≡ 0 ∷ 800 ∷ 0 ∷ [])
unfolding output-opened applied_from
fees-applied = (refl, refl)

fees-by-year : (index : ℕ) → fees_of index ≡ table years (yearly_value (applied_from electricity fresh_book (fees_alone index)) (numbered 4).measure 0)
fees-by-year index = ap (λ (b : Book). table years (yearly_value b (numbered 4).measure 0)) (book-of electricity (fees_alone index))

-- the value of year 0 after operator 0 has joined and filed one amount
value_after : {value : ℕ} (kind : List Indicator) (measure : Measure) (figure amount : ℕ)
    → yearly_value (applied_from kind fresh_book (Join 0 ∷ Amount 0 0 figure 0 amount ∷ [])) measure 0 0 ≡ value
    → yearly_value (book_of kind (Join 0 ∷ Amount 0 0 figure 0 amount ∷ [])) measure 0 0 ≡ value
value_after kind measure figure amount same = after kind (λ (b : Book). yearly_value b measure 0 0) (Join 0 ∷ Amount 0 0 figure 0 amount ∷ []) same

-- seconds without weight
undivided : (yearly_value (book_of electricity (Join 0 ∷ Amount 0 0 1 0 5000 ∷ [])) (numbered 1).measure 0 0 ≡ 0)
    × (yearly_value (book_of electricity (Join 0 ∷ Amount 0 0 3 0 5000 ∷ [])) (numbered 3).measure 0 0 ≡ 0)
unfolding output-opened applied_from
undivided = (value_after electricity (numbered 1).measure 1 5000 refl, value_after electricity (numbered 3).measure 3 5000 refl)

-- a join needs four bytes
join-too-long : writer_answer (book_of electricity (Join 0 ∷ [])) (0 ∷ 0 ∷ 0 ∷ []) ≡ refused_by 13
unfolding filing-opened writer-opened
join-too-long = refl

-- the same of gas
gas-said : {answer : Said Acceptance} (more : List Call) → (settled_by (applied_from gas fresh_book (Join 0 ∷ more)) gas).said ≡ answer → gas_settled more ≡ answer
gas-said more same = after gas (λ (b : Book). (settled_gas b).said) (Join 0 ∷ more) same

gas-pools : (settled_gas (book_of gas (Join 0 ∷ Setting 0 1 1 ∷ Mark 0 4 0 ∷ []))).settlement.pools ≡ 0 ∷ 0 ∷ 0 ∷ 0 ∷ 6000 ∷ 0 ∷ []
unfolding output-opened applied_from
gas-pools = after gas (λ (b : Book). (settled_gas b).settlement.pools) (Join 0 ∷ Setting 0 1 1 ∷ Mark 0 4 0 ∷ []) refl

-- answers to gas calls, in the order of the list
gas-barred : All (map (λ (figure : ℕ). gas_said_to (Amount 0 0 figure 0 0) ≡ refused_by 5) (0 ∷ 3 ∷ 8 ∷ 12 ∷ []))
    × (All (map (λ (indicator : ℕ). gas_said_to (Mark 0 indicator 0) ≡ refused_by 5) (0 ∷ 3 ∷ []))
    × All (map (λ (which : ℕ). gas_said_to (Setting 0 which 0) ≡ refused_by 5) (0 ∷ 3 ∷ 4 ∷ [])))
unfolding output-opened answers_from
gas-barred = (
  (
    answered gas (Amount 0 0 0 0 0) refl,
    (answered gas (Amount 0 0 3 0 0) refl, (answered gas (Amount 0 0 8 0 0) refl, (answered gas (Amount 0 0 12 0 0) refl, tt))),
  ),
  (
    (answered gas (Mark 0 0 0) refl, (answered gas (Mark 0 3 0) refl, tt)),
    (answered gas (Setting 0 0 0) refl, (answered gas (Setting 0 3 0) refl, (answered gas (Setting 0 4 0) refl, tt))),
  ),
)

gas-holds : All gas_cases
unfolding output-opened applied_from answers_from
gas-holds =
    (refused-example gas (3 ∷ 0 ∷ 0 ∷ []) 2 _ (omega arith) refl refl, (answered gas (lasting 0 181) refl, (answered gas (lasting 181 0) refl, (gas-barred.0, (gas-barred.1.0, (gas-barred.1.1, (answered gas (Amount 16 0 0 0 0) refl, (answered gas (Amount 1 0 0 0 0) refl, (answered gas (Amount 1 0 4 0 0) refl, (refl, (gas-said [] refl, (gas-said (Setting 0 1 1 ∷ []) refl, (gas-said (Setting 0 1 1 ∷ Mark 0 4 0 ∷ []) refl, (value_after gas (numbered_in gas 5).measure 6 5 refl, (gas-pools, tt)))))))))))))))

-- a figure of exactly 10^11
figure-taken : figure_of (book_of electricity (Join 0 ∷ Amount 0 0 4 0 100000000000 ∷ [])) 0 0 4 ≡ 100000000000
unfolding output-opened applied_from
figure-taken = after electricity (λ (b : Book). figure_of b 0 0 4) (Join 0 ∷ Amount 0 0 4 0 100000000000 ∷ []) refl

-- of one remainder and one size nobody is served before place 0
module _ (size : ℕ) where
  abbrev even : List ℕ
  even = size ∷ size ∷ size ∷ []

  abbrev ones : List ℕ
  ones = 1 ∷ 1 ∷ 1 ∷ []

  later : (i : ℕ) → precedes 1 size i 1 size 0 ≡ ltb i 0
  unfolding precedes
  later i = tied 1 1 _ refl ∙ tied size size _ refl

  first-of-two : foremost even ones 2 ≡ 0
  first-of-two = foremost-more even ones 0 1 false (sym (foremost-one even ones)) (later 1)

  first-of-three : foremost even ones 3 ≡ 0
  first-of-three = foremost-more even ones 0 2 false (sym first-of-two) (later 2)

  even-sizes : share 10 ones even ≡ 4 ∷ 3 ∷ 3 ∷ []
  unfolding share award floors remainders sum
  even-sizes = ap (λ (place : ℕ). set (3 ∷ 3 ∷ 3 ∷ []) place (get_or (3 ∷ 3 ∷ 3 ∷ []) place 0 + 1)) first-of-three

-- what calls are answered, computed one by one without the range of their books
abbrev Computed : List (Call × Said Acceptance) → Type 0
Computed [] = Unit {0}
Computed ((call, answer) ∷ rest) = (get_or (answers_from electricity fresh_book (Join 0 ∷ call ∷ [])) 1 (refused_by 0) ≡ answer) × Computed rest

all-answered : (cases : List (Call × Said Acceptance)) → Computed cases → Answered cases
all-answered [] computed = tt
all-answered ((call, answer) ∷ rest) computed = (answered electricity call computed.0, all-answered rest computed.1)

-- times with numbers of their own
timed-hold : Answered time_cases
unfolding output-opened answers_from
timed-hold = all-answered time_cases (refl, (refl, (refl, (refl, (refl, (refl, (refl, (refl, (refl, (refl, (refl, (refl, (refl, (refl, (refl, (refl, (refl, (refl, (refl, tt)))))))))))))))))))

-- ties by size
tied-hold : All tied_cases
unfolding output-opened applied_from points_at
tied-hold = (
  after electricity (λ (b : Book). take 2 (settled b).settlement.contributions) (pot_of_two 1 3 ++ cabins_of_two) refl,
  (
    after electricity (λ (b : Book). take 2 (settled b).settlement.returns) (pot_of_two 3 5 ++ cabins_of_two) refl,
    (
      after gas (λ (b : Book). take 3 (points_at (settled_gas b).settlement 5)) cut_three refl,
      (after gas (λ (b : Book). take 3 (settled_gas b).settlement.adjustments) cut_three refl, tt),
    ),
  ),
)

pub all_hold : All marked
unfolding output-opened answers_from
all_hold =
    (even-sizes, (refl, (refl, (answered electricity (lasting 0 180) refl, (answered electricity (lasting 0 181) refl, (answered electricity (lasting 31535000 31535999) refl, (answered electricity (lasting 31535000 31536000) refl, (answered electricity (lasting 94607000 94608000) refl, (answered electricity (Amount 0 0 4 0 100000000000) refl, (figure-taken, (output-m, (cut-m, (filings-refused, (answered electricity (Amount 0 0 4 0 100000000001) refl, (answered electricity (Amount 0 0 4 1 1) refl, (refl, (joined-only, (marked-six, (joined-new, (cleared-one, (lost, (grown 0 ∙ grown-applied.0, (grown 1 ∙ grown-applied.1, (adjusted-grown, (fees-by-year 10000 ∙ fees-applied.0, (fees-by-year 12500 ∙ fees-applied.1, (adjusted-fees, (adjusted-fees-indexed, (undivided.0, (undivided.1, (join-too-long, (refl, (refl, (refl, (timed-hold, (tied-hold, (gas-holds, tt)))))))))))))))))))))))))))))))))))))
