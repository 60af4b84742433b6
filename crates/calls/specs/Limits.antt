-- The ranges of document 01, "The book".
-- Assumes nothing.
use Rattle.std.specs.Prelude.{ℕ, zero, suc, ◌+◌, ◌*◌}

abbrev pub operators : ℕ
operators = 16

-- 2017, 2018 and 2019
abbrev pub years : ℕ
years = 3

-- "Five count figures, 8 to 12 in that order, join the eight in the book" (02, point 2): the first of them, and how many they are, one for
-- each outcome of an interruption
abbrev pub first_count : ℕ
first_count = 8

abbrev pub outcome_count : ℕ
outcome_count = 5

abbrev pub figure_count : ℕ
figure_count = first_count + outcome_count

-- cabins of year 0, active access points, income, cabins of year 1, cabins of year 2
abbrev pub setting_count : ℕ
setting_count = 5

-- "Setting 0 is year 0; settings 3 and 4 are years 1 and 2" (02, point 3): the setting that has a year's cabins; year 2 is the last
abbrev pub cabins_in : ℕ → ℕ
cabins_in zero = 0
cabins_in (suc zero) = 3
cabins_in (suc (suc later)) = 4

-- how many of each the operators have, and the figures of one operator
abbrev pub setting_places : ℕ
setting_places = operators * setting_count

abbrev pub operator_figures : ℕ
operator_figures = years * figure_count

abbrev pub figure_places : ℕ
figure_places = operators * years * figure_count

abbrev pub indicator_count : ℕ
indicator_count = 6

abbrev pub mark_places : ℕ
mark_places = operators * indicator_count

abbrev pub index_count : ℕ
index_count = 4

-- cabins 0 to 100,000, active access points 0 to 4,000,000, income in cents 0 to 10^11, and cabins again
abbrev pub setting_limit : ℕ → ℕ
setting_limit zero = 100000
setting_limit (suc zero) = 4000000
setting_limit (suc (suc zero)) = 100000000000
setting_limit (suc (suc (suc which))) = 100000

-- figures 0 to 10^11
abbrev pub figure_limit : ℕ
figure_limit = 100000000000

-- pot rate and cap rate 0 to 20,000 millionths
abbrev pub rate_limit : ℕ
rate_limit = 20000

-- indices 1 to 100,000 hundredths
abbrev pub index_least : ℕ
index_least = 1

abbrev pub index_most : ℕ
index_most = 100000

-- "all four indices 10,000"
abbrev pub fresh_index : ℕ
fresh_index = 10000

-- seconds in a year
abbrev pub year_length : ℕ
year_length = 31536000

-- "End is 0 to 94,607,999, start at least -31,536,000": the last second of the three years, and how far before them one may begin
abbrev pub last_end : ℕ
last_end = 94607999

abbrev pub start_before : ℕ
start_before = 31536000

-- "Weight is the number of cabins, 1 to 100,000, for MV"
abbrev pub weight_limit : ℕ
weight_limit = 100000

-- "An interruption of 180 seconds or less is left out as short"
abbrev pub short_most : ℕ
short_most = 180

-- no interruption lasts longer
abbrev pub longest : ℕ
longest = last_end + start_before
