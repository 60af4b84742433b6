-- The cases that document 01 marks, its examples in bytes, and cases of the points of 02, gathered in one list of statements. One theorem
-- covers the list: `all_hold` of proofs/MarkedHold.antt.
-- Assumes nothing.
use Rattle.std.specs.Prelude.{◌≡◌, List, [], ◌∷◌, ◌++◌, map, ℕ, ltb, ℤ, pos, neg_ℤ, get_or, take}
use Rattle.apportion.specs.Share.{share}
use Rattle.exponent.specs.Weight.{weight_of}
use Rattle.calls.specs.declared.Call.{Call}
use Rattle.calls.specs.declared.Call.TheVariants.{Join, Setting, Interruption, Amount, Mark, Rates, Index}
use Rattle.calls.specs.Limits.{years}
use Rattle.calls.specs.Indicators.{electricity, gas}
use Rattle.calls.specs.Answers.{Said, refused_by, accepted, Acceptance, yes_said, counted_in, left_out_as_short}
use Rattle.book.specs.Book.{fresh_book, figure_of}
use Rattle.ledger.specs.Calls.{filed_answers, file_gas}
use Rattle.history.specs.Demand.{book_of}
use Rattle.values.specs.Operators.{table, each}
use Rattle.values.specs.Indicator.{yearly_value, numbered, numbered_in}
use Rattle.indicators.specs.Points.{levelled}
use Rattle.indicators.specs.Sequence.{thousandths, exponent_weights, levelled_weights}
use Rattle.settlement.specs.Settlement.{settled, settled_gas}
use Rattle.settlement.specs.Laws.{points_at}
use Rattle.text.specs.Text.{bytes_of}
use Rattle.output.specs.Output.{output_of, gas_output_of}
use Rattle.writer.specs.Writer.{writer_answer}

-- what a call is answered after operator 0 has joined a fresh book
abbrev pub said_to : Call → Said Acceptance
said_to call = get_or (filed_answers electricity fresh_book (Join 0 ∷ call ∷ [])) 1 (refused_by 0)

-- an operator files an interruption of its own MV network, with some cabins, from a start to an end
abbrev pub files : ℕ → ℕ → ℤ → ℤ → Call
files operator cabins start end = Interruption operator 0 0 0 start end cabins

-- operator 0, one cabin
abbrev pub lasting : ℕ → ℕ → Call
lasting start end = files 0 1 (pos start) (pos end)

-- the least and the most of a time in a field, which has eight bytes
abbrev pub least_time : ℤ
least_time = neg_ℤ (pos 9223372036854775808)

abbrev pub most_time : ℤ
most_time = pos 9223372036854775807

-- "M: operators 0 and 1; cabins 100 each; access points 1000 and 3000; income 100,000,000 and 200,000,000; operator 1, year 0:
-- fees 50,000, connections 100; rates 5000 and" a cap rate; all that is filed is attested ("case M gains twelve clearing fields", 02, point
-- 1), and "Case M sets all three to 100" (02, point 3)
abbrev pub case_m : ℕ → List Call
case_m cap =
    Join 0 ∷ Join 1 ∷ Setting 0 0 100 ∷ Setting 1 0 100 ∷ Setting 0 1 1000 ∷ Setting 1 1 3000 ∷ Setting 0 2 100000000 ∷ Setting 1 2 200000000
    ∷ Setting 0 3 100 ∷ Setting 1 3 100 ∷ Setting 0 4 100 ∷ Setting 1 4 100
    ∷ Amount 1 0 4 0 50000 ∷ Amount 1 0 5 0 100
    ∷ Mark 0 0 0 ∷ Mark 0 1 0 ∷ Mark 0 2 0 ∷ Mark 0 3 0 ∷ Mark 0 4 0 ∷ Mark 0 5 0
    ∷ Mark 1 0 0 ∷ Mark 1 1 0 ∷ Mark 1 2 0 ∷ Mark 1 3 0 ∷ Mark 1 4 0 ∷ Mark 1 5 0
    ∷ Rates 5000 cap ∷ []

-- the same in the bytes of a filing: two fields a line, the marks of each operator, and the rates
abbrev pub filing_m : List ℕ
filing_m =
    1 ∷ 0 ∷ 1 ∷ 0 ∷ 1 ∷ 0 ∷ 1 ∷ 1
    ∷ 2 ∷ 0 ∷ 10 ∷ 0 ∷ 0 ∷ 0 ∷ 0 ∷ 0 ∷ 0 ∷ 0 ∷ 0 ∷ 0 ∷ 100 ∷ 2 ∷ 0 ∷ 10 ∷ 1 ∷ 0 ∷ 0 ∷ 0 ∷ 0 ∷ 0 ∷ 0 ∷ 0 ∷ 0 ∷ 100
    ∷ 2 ∷ 0 ∷ 10 ∷ 0 ∷ 1 ∷ 0 ∷ 0 ∷ 0 ∷ 0 ∷ 0 ∷ 0 ∷ 3 ∷ 232 ∷ 2 ∷ 0 ∷ 10 ∷ 1 ∷ 1 ∷ 0 ∷ 0 ∷ 0 ∷ 0 ∷ 0 ∷ 0 ∷ 11 ∷ 184
    ∷ 2 ∷ 0 ∷ 10 ∷ 0 ∷ 2 ∷ 0 ∷ 0 ∷ 0 ∷ 0 ∷ 5 ∷ 245 ∷ 225 ∷ 0 ∷ 2 ∷ 0 ∷ 10 ∷ 1 ∷ 2 ∷ 0 ∷ 0 ∷ 0 ∷ 0 ∷ 11 ∷ 235 ∷ 194 ∷ 0
    ∷ 2 ∷ 0 ∷ 10 ∷ 0 ∷ 3 ∷ 0 ∷ 0 ∷ 0 ∷ 0 ∷ 0 ∷ 0 ∷ 0 ∷ 100 ∷ 2 ∷ 0 ∷ 10 ∷ 1 ∷ 3 ∷ 0 ∷ 0 ∷ 0 ∷ 0 ∷ 0 ∷ 0 ∷ 0 ∷ 100
    ∷ 2 ∷ 0 ∷ 10 ∷ 0 ∷ 4 ∷ 0 ∷ 0 ∷ 0 ∷ 0 ∷ 0 ∷ 0 ∷ 0 ∷ 100 ∷ 2 ∷ 0 ∷ 10 ∷ 1 ∷ 4 ∷ 0 ∷ 0 ∷ 0 ∷ 0 ∷ 0 ∷ 0 ∷ 0 ∷ 100
    ∷ 4 ∷ 0 ∷ 12 ∷ 1 ∷ 0 ∷ 4 ∷ 0 ∷ 0 ∷ 0 ∷ 0 ∷ 0 ∷ 0 ∷ 0 ∷ 195 ∷ 80 ∷ 4 ∷ 0 ∷ 12 ∷ 1 ∷ 0 ∷ 5 ∷ 0 ∷ 0 ∷ 0 ∷ 0 ∷ 0 ∷ 0 ∷ 0 ∷ 0 ∷ 100
    ∷ 5 ∷ 0 ∷ 3 ∷ 0 ∷ 0 ∷ 0 ∷ 5 ∷ 0 ∷ 3 ∷ 0 ∷ 1 ∷ 0 ∷ 5 ∷ 0 ∷ 3 ∷ 0 ∷ 2 ∷ 0 ∷ 5 ∷ 0 ∷ 3 ∷ 0 ∷ 3 ∷ 0 ∷ 5 ∷ 0 ∷ 3 ∷ 0 ∷ 4 ∷ 0 ∷ 5 ∷ 0 ∷ 3 ∷ 0 ∷ 5 ∷ 0
    ∷ 5 ∷ 0 ∷ 3 ∷ 1 ∷ 0 ∷ 0 ∷ 5 ∷ 0 ∷ 3 ∷ 1 ∷ 1 ∷ 0 ∷ 5 ∷ 0 ∷ 3 ∷ 1 ∷ 2 ∷ 0 ∷ 5 ∷ 0 ∷ 3 ∷ 1 ∷ 3 ∷ 0 ∷ 5 ∷ 0 ∷ 3 ∷ 1 ∷ 4 ∷ 0 ∷ 5 ∷ 0 ∷ 3 ∷ 1 ∷ 5 ∷ 0
    ∷ 6 ∷ 0 ∷ 8 ∷ 0 ∷ 0 ∷ 19 ∷ 136 ∷ 0 ∷ 0 ∷ 39 ∷ 16 ∷ []

-- the lines that 01 shows for M
abbrev pub lines_m : List ℕ
lines_m = bytes_of "operator points out in adjustment\n0 65036 375000 386463 11463\n1 62464 1125000 1113537 -11463\nall 127500 1500000 1500000 0\n"

-- operator 0 has joined and has a network; then more calls
abbrev pub newcomer : List Call → List Call
newcomer more = Join 0 ∷ Setting 0 0 1 ∷ Setting 0 1 1 ∷ Setting 0 3 1 ∷ Setting 0 4 1 ∷ more

-- it is marked at all six indicators
abbrev pub six_marks : List Call
six_marks = newcomer (Mark 0 0 1 ∷ Mark 0 1 1 ∷ Mark 0 2 1 ∷ Mark 0 3 1 ∷ Mark 0 4 1 ∷ Mark 0 5 1 ∷ [])

-- it loses one of its settings; D1 is cleared, A1 is not
abbrev pub losing : ℕ → List Call
losing which = newcomer (Mark 0 4 0 ∷ Setting 0 which 0 ∷ [])

-- two networks, one that grows and one that shrinks, with other interruptions in each year; A1 alone is attested
abbrev pub growing : List Call
growing =
    Join 0 ∷ Setting 0 0 100 ∷ Setting 0 1 1000 ∷ Setting 0 2 100000000 ∷ Setting 0 3 200 ∷ Setting 0 4 400
    ∷ Join 1 ∷ Setting 1 0 400 ∷ Setting 1 1 3000 ∷ Setting 1 2 200000000 ∷ Setting 1 3 200 ∷ Setting 1 4 100
    ∷ Amount 0 0 0 0 5 ∷ Amount 0 1 0 0 9 ∷ Amount 0 2 0 0 40 ∷ Amount 1 0 0 0 17 ∷ Amount 1 1 0 0 8 ∷ Amount 1 2 0 0 6
    ∷ Mark 0 0 0 ∷ Mark 1 0 0 ∷ Rates 5000 10000 ∷ []

-- A1 of one of them, by year
abbrev pub frequencies_of : ℕ → List ℕ
frequencies_of operator = table years (yearly_value (book_of electricity growing) (numbered 0).measure operator)

-- M, and operator 0 pays fees in year 1, in which it makes no connection; with an index of that year
abbrev pub fees_alone : ℕ → List Call
fees_alone index = case_m 10000 ++ (Amount 0 1 4 0 100 ∷ Index 1 index ∷ [])

-- D1 of operator 0, by year
abbrev pub fees_of : ℕ → List ℕ
fees_of index = table years (yearly_value (book_of electricity (fees_alone index)) (numbered 4).measure 0)

-- what the first two operators are adjusted by
abbrev pub two_adjusted : List Call → List ℤ
two_adjusted calls = take 2 (settled (book_of electricity calls)).settlement.adjustments

-- what a gas call is answered after operator 0 has joined a fresh book of gas
abbrev pub gas_said_to : Call → Said Acceptance
gas_said_to call = get_or (filed_answers gas fresh_book (Join 0 ∷ call ∷ [])) 1 (refused_by 0)

-- the gas book that operator 0 and more calls leave, settled
abbrev pub gas_settled : List Call → Said Acceptance
gas_settled more = (settled_gas (book_of gas (Join 0 ∷ more))).said

-- two operators with access points, whose rates make a pot of 2; both are attested at D2, the first at D1 too
abbrev pub pot_of_two : ℕ → ℕ → List Call
pot_of_two access other =
    Join 0 ∷ Join 1 ∷ Setting 0 1 access ∷ Setting 1 1 other ∷ Setting 0 2 100 ∷ Mark 0 4 0 ∷ Mark 0 5 0 ∷ Mark 1 5 0 ∷ Rates 20000 0 ∷ []

-- their cabins, which electricity needs
abbrev pub cabins_of_two : List Call
cabins_of_two = Setting 0 0 1 ∷ Setting 0 3 1 ∷ Setting 0 4 1 ∷ Setting 1 0 1 ∷ Setting 1 3 1 ∷ Setting 1 4 1 ∷ []

-- three operators with 2, 9 and 3 access points: a pot of 12, limits of 3, 1 and 1; scores of 0, 1000 and 500 at D1, of 500, 1000 and 500 at D2
abbrev pub cut_three : List Call
cut_three =
    Join 0 ∷ Join 1 ∷ Join 2 ∷ Setting 0 1 2 ∷ Setting 1 1 9 ∷ Setting 2 1 3 ∷ Setting 0 2 600 ∷ Setting 1 2 300 ∷ Setting 2 2 300
    ∷ Amount 1 0 4 0 100 ∷ Amount 2 0 4 0 50 ∷ Amount 0 0 6 0 50 ∷ Amount 1 0 6 0 100 ∷ Amount 2 0 6 0 50
    ∷ Mark 0 4 0 ∷ Mark 0 5 0 ∷ Mark 1 4 0 ∷ Mark 1 5 0 ∷ Mark 2 4 0 ∷ Mark 2 5 0 ∷ Rates 10000 5000 ∷ []

-- every statement of a list holds
abbrev pub All : List (Type 0) → Type 0
All [] = Unit {0}
All (statement ∷ rest) = statement × All rest

-- "A refused field prints `refused 4 at 0` (number, offset)", and the examples that the table of answers gives in bytes
abbrev pub refused_filings : List (Type 0)
refused_filings =
    (output_of (1 ∷ 0 ∷ 1 ∷ 16 ∷ []) ≡ bytes_of "refused 4 at 0\n") ∷ (output_of (1 ∷ 0 ∷ []) ≡ bytes_of "refused 1 at 0\n")
    ∷ (output_of (99 ∷ 0 ∷ 0 ∷ []) ≡ bytes_of "refused 2 at 0\n") ∷ (output_of (1 ∷ 0 ∷ 2 ∷ 0 ∷ 0 ∷ []) ≡ bytes_of "refused 3 at 0\n")
    ∷ (output_of (5 ∷ 0 ∷ 3 ∷ 0 ∷ 6 ∷ 1 ∷ []) ≡ bytes_of "refused 5 at 0\n") ∷ (output_of (1 ∷ 0 ∷ 1 ∷ 0 ∷ 1 ∷ 0 ∷ 1 ∷ 0 ∷ []) ≡ bytes_of "refused 6 at 4\n")
    ∷ (output_of (5 ∷ 0 ∷ 3 ∷ 0 ∷ 0 ∷ 1 ∷ []) ≡ bytes_of "refused 7 at 0\n") ∷ []

-- 02, point 4
abbrev pub gas_cases : List (Type 0)
gas_cases =
    -- "There an interruption field is refused by 2", also as a call, and before its times are looked at
    (gas_output_of (3 ∷ 0 ∷ 0 ∷ []) ≡ bytes_of "refused 2 at 0\n") ∷ (gas_said_to (lasting 0 181) ≡ refused_by 2) ∷ (gas_said_to (lasting 181 0) ≡ refused_by 2)
    -- "figures 0 to 3 and 8 to 12, indicators 0 to 3 and every cabin setting are refused by 5", also where they would stay 0
    ∷ All (map (λ (figure : ℕ). gas_said_to (Amount 0 0 figure 0 0) ≡ refused_by 5) (0 ∷ 3 ∷ 8 ∷ 12 ∷ []))
    ∷ All (map (λ (indicator : ℕ). gas_said_to (Mark 0 indicator 0) ≡ refused_by 5) (0 ∷ 3 ∷ []))
    ∷ All (map (λ (which : ℕ). gas_said_to (Setting 0 which 0) ≡ refused_by 5) (0 ∷ 3 ∷ 4 ∷ []))
    -- 4 comes before that, and 7 after it
    ∷ (gas_said_to (Amount 16 0 0 0 0) ≡ refused_by 4) ∷ (gas_said_to (Amount 1 0 0 0 0) ≡ refused_by 5) ∷ (gas_said_to (Amount 1 0 4 0 0) ≡ refused_by 7)
    -- "A lent gas book in which one of these isn't 0 gets 5": one that electricity's join has marked at A1
    ∷ ((file_gas (book_of electricity (Join 0 ∷ [])) (Rates 0 0)).said ≡ refused_by 5)
    -- "Refusal 11 looks at access points alone, and refusal 12 at the two gas indicators. A gas join marks those two": a join, with access
    -- points, with D1 cleared
    ∷ (gas_settled [] ≡ refused_by 11) ∷ (gas_settled (Setting 0 1 1 ∷ []) ≡ refused_by 12)
    ∷ (gas_settled (Setting 0 1 1 ∷ Mark 0 4 0 ∷ []) ≡ accepted yes_said)
    -- D2 in a year without reconnections (02, point 6)
    ∷ (yearly_value (book_of gas (Join 0 ∷ Amount 0 0 6 0 5 ∷ [])) (numbered_in gas 5).measure 0 0 ≡ 50)
    -- its pool, 300 times 20 points, stands at D1's number
    ∷ ((settled_gas (book_of gas (Join 0 ∷ Setting 0 1 1 ∷ Mark 0 4 0 ∷ []))).settlement.pools ≡ 0 ∷ 0 ∷ 0 ∷ 0 ∷ 6000 ∷ 0 ∷ []) ∷ []

-- calls, and what each is answered after operator 0 has joined
abbrev pub Answered : List (Call × Said Acceptance) → Type 0
Answered cases = All (map (λ (case : Call × Said Acceptance). said_to case.0 ≡ case.1) cases)

-- "Which value was out of range" (02, point 8)
abbrev pub time_cases : List (Call × Said Acceptance)
time_cases =
    -- "Start after end is 14", by one second; a start that is the end is none after it
    (lasting 301 300, refused_by 14) ∷ (lasting 300 300, accepted left_out_as_short)
    -- "a time outside the period 15": an end before it, a start too early, and the first and the last that are taken
    ∷ (files 0 1 (neg_ℤ (pos 1000)) (neg_ℤ (pos 1)), refused_by 15) ∷ (files 0 1 (neg_ℤ (pos 31536001)) (pos 0), refused_by 15)
    ∷ (files 0 1 (neg_ℤ (pos 31536000)) (pos 0), accepted (counted_in 0)) ∷ (lasting 94607000 94607999, accepted (counted_in 2))
    -- "in the order 4, 5, 14, 15, 6": both of them; operator 16, no cabins, and operator 1, that has not joined
    ∷ (lasting 94608001 94608000, refused_by 14)
    ∷ (files 16 1 (pos 301) (pos 300), refused_by 4) ∷ (files 0 0 (pos 301) (pos 300), refused_by 5) ∷ (files 0 0 (pos 0) (pos 94608000), refused_by 5)
    ∷ (files 1 1 (pos 301) (pos 300), refused_by 14) ∷ (files 1 1 (pos 0) (pos 94608000), refused_by 15) ∷ (files 1 1 (pos 0) (pos 300), refused_by 7)
    -- the ends of what a field can hold
    ∷ (files 0 1 least_time most_time, refused_by 15) ∷ (files 0 1 most_time least_time, refused_by 14)
    ∷ (files 0 1 least_time least_time, refused_by 15) ∷ (files 0 1 most_time most_time, refused_by 15)
    ∷ (files 0 1 least_time (pos 0), refused_by 15) ∷ (files 0 1 most_time (pos 0), refused_by 14) ∷ []

-- "Ties by size" (02, point 7): in each of the four sharings the operator with more access points has the spare unit
abbrev pub tied_cases : List (Type 0)
tied_cases =
    -- contributions of 2 by 1 and 3: 2 × 1 and 2 × 3 leave 2 of 4
    (take 2 (settled (book_of electricity (pot_of_two 1 3 ++ cabins_of_two))).settlement.contributions ≡ 0 ∷ 2 ∷ [])
    -- returns of 2 by 3 × 3,750 and 5 × 750: both leave a half, and the larger weight is not the larger operator's
    ∷ (take 2 (settled (book_of electricity (pot_of_two 3 5 ++ cabins_of_two))).settlement.returns ≡ 1 ∷ 1 ∷ [])
    -- points at D2 of 1,500 by 7, 4 and 7: each leaves 6 of 18
    ∷ (take 3 (points_at (settled_gas (book_of gas cut_three)).settlement 5) ≡ 583 ∷ 334 ∷ 583 ∷ [])
    -- differences of 1, -2 and 1, cut to 1, -1 and 1: a bonus of 1 is shared by 1 and 1
    ∷ (take 3 (settled_gas (book_of gas cut_three)).settlement.adjustments ≡ pos 0 ∷ neg_ℤ (pos 1) ∷ pos 1 ∷ []) ∷ []

-- the sums of operators 0 to 3, with a mean of 150,500
abbrev around_the_mean : List ℕ
around_the_mean = 101000 ∷ 200000 ∷ 150501 ∷ 150499 ∷ []

abbrev pub marked : List (Type 0)
marked =
    -- "sharing 10 by 1, 1, 1 gives 4, 3, 3", which "stands for equal access points" (02, point 7), whatever they are
    ((size : ℕ) → share 10 (1 ∷ 1 ∷ 1 ∷ []) (size ∷ size ∷ size ∷ []) ≡ 4 ∷ 3 ∷ 3 ∷ [])
    -- "the table's weight for k = 4 is 996,005,996 (k = 0 has the first)"
    ∷ (weight_of 4 ≡ 996005996) ∷ (weight_of 0 ≡ 1000000000)
    -- "180 s is short, 181 s counts"
    ∷ (said_to (lasting 0 180) ≡ accepted left_out_as_short) ∷ (said_to (lasting 0 181) ≡ accepted (counted_in 0))
    -- "end 31,535,999 is year 0, 31,536,000 year 1"
    ∷ (said_to (lasting 31535000 31535999) ≡ accepted (counted_in 0)) ∷ (said_to (lasting 31535000 31536000) ≡ accepted (counted_in 1))
    -- "the marked end of 94,608,000 now gets 15" (02, point 8)
    ∷ (said_to (lasting 94607000 94608000) ≡ refused_by 15)
    -- "a figure of exactly 10^11 is taken"
    ∷ (said_to (Amount 0 0 4 0 100000000000) ≡ accepted yes_said)
    ∷ (figure_of (book_of electricity (Join 0 ∷ Amount 0 0 4 0 100000000000 ∷ [])) 0 0 4 ≡ 100000000000)
    -- "The program .. prints this for marked case M"
    ∷ (output_of filing_m ≡ lines_m)
    -- "M with cap rate 50 adjusts by 5000 and -5000"
    ∷ (two_adjusted (case_m 50) ≡ pos 5000 ∷ neg_ℤ (pos 5000) ∷ [])
    -- filings that are refused at a field
    ∷ All refused_filings
    -- "amount 10^11 + 1", "withdraw 1 from 0"
    ∷ (said_to (Amount 0 0 4 0 100000000001) ≡ refused_by 8) ∷ (said_to (Amount 0 0 4 1 1) ≡ refused_by 9)
    -- "a refused settlement `refused 10`": a fresh book
    ∷ (output_of [] ≡ bytes_of "refused 10\n")
    -- "only a join"; "one operator, six marks", its network filed, since 11 would come first
    ∷ ((settled (book_of electricity (Join 0 ∷ []))).said ≡ refused_by 11) ∷ ((settled (book_of electricity six_marks)).said ≡ refused_by 12)
    -- "A freshly joined set meets refusal 12 once its settings are in" (02, point 1); with one mark cleared it settles
    ∷ ((settled (book_of electricity (newcomer []))).said ≡ refused_by 12) ∷ ((settled (book_of electricity (newcomer (Mark 0 0 0 ∷ [])))).said ≡ accepted yes_said)
    -- "Refusal 11 is given if any of the three is 0" (02, point 3), and for no access points as before
    ∷ All (map (λ (which : ℕ). (settled (book_of electricity (losing which))).said ≡ refused_by 11) (0 ∷ 3 ∷ 4 ∷ 1 ∷ []))
    -- "A1 divides by the year's own" (02, point 3): a million times 5 / 100, 9 / 200, 40 / 400, and 17 / 400, 8 / 200, 6 / 100
    ∷ (frequencies_of 0 ≡ 50000 ∷ 45000 ∷ 100000 ∷ []) ∷ (frequencies_of 1 ≡ 42500 ∷ 40000 ∷ 60000 ∷ [])
    ∷ (two_adjusted growing ≡ neg_ℤ (pos 70762) ∷ pos 70762 ∷ [])
    -- "fees paid in a year with no connection made do weigh" (02, point 6): 10 × 100 × 10,000 by 1 × 10,000, and by 1 × 12,500
    ∷ (fees_of 10000 ≡ 0 ∷ 1000 ∷ 0 ∷ []) ∷ (fees_of 12500 ≡ 0 ∷ 800 ∷ 0 ∷ [])
    ∷ (two_adjusted (fees_alone 10000) ≡ pos 10015 ∷ neg_ℤ (pos 10015) ∷ []) ∷ (two_adjusted (fees_alone 12500) ≡ pos 10329 ∷ neg_ℤ (pos 10329) ∷ [])
    -- "The A indicators keep their zero rule": seconds without weight, of A2 and A4
    ∷ (yearly_value (book_of electricity (Join 0 ∷ Amount 0 0 1 0 5000 ∷ [])) (numbered 1).measure 0 0 ≡ 0)
    ∷ (yearly_value (book_of electricity (Join 0 ∷ Amount 0 0 3 0 5000 ∷ [])) (numbered 3).measure 0 0 ≡ 0)
    -- "writer, 3 bytes, one join"
    ∷ (writer_answer (book_of electricity (Join 0 ∷ [])) (0 ∷ 0 ∷ 0 ∷ []) ≡ refused_by 13)
    -- "weights 10, 8, 4 with the first two better become 18, 18, 8"
    ∷ (take 3 (each (levelled (λ (operator : ℕ). ltb operator 2) (λ (operator : ℕ). get_or (10 ∷ 8 ∷ 4 ∷ []) operator 0))) ≡ 18 ∷ 18 ∷ 8 ∷ [])
    -- levelling goes by the sums and not by k (02, point 5): two have one k, and the mean between them
    ∷ (take 4 (thousandths around_the_mean) ≡ 505 ∷ 1000 ∷ 752 ∷ 752 ∷ [])
    ∷ (take 4 (levelled_weights 15 around_the_mean (exponent_weights (thousandths around_the_mean))) ≡ 1074598086 ∷ 735390232 ∷ 942490338 ∷ 1074598086 ∷ [])
    -- times with numbers of their own, ties by size, and gas
    ∷ Answered time_cases ∷ All tied_cases ∷ All gas_cases ∷ []
