-- Amounts and times as they are printed.
use Rattle.std.specs.Prelude.{◌≡◌, ℕ, ◌/◌, ◌%◌, nat_lt, if◌then◌else◌, List, ◌++◌, codes, decimal, refl}
use Rattle.std.specs.Fmt.{digits}

-- a number below 100
abbrev pub two_digits : ℕ → List ℕ
two_digits number = decimal (number / 10) ++ decimal (number % 10)

-- an amount of pence in pounds and pence
abbrev pub pounds_text : ℕ → List ℕ
pounds_text pence = decimal (pence / 100) ++ (codes "." ++ two_digits (pence % 100))

-- a local second of the day
abbrev pub clock_text : ℕ → List ℕ
clock_text second = two_digits (second / 3_600) ++ (codes ":" ++ (two_digits (second / 60 % 60) ++ (codes ":" ++ two_digits (second % 60))))

-- what stands before an amount, so that all points are in one column
abbrev pub indent : ℕ → List ℕ
indent pence = if nat_lt pence 1_000 then codes "   " else if nat_lt pence 10_000 then codes "  " else if nat_lt pence 100_000 then codes " " else codes ""

-- an amount at the head of a line
abbrev pub head_text : ℕ → List ℕ
head_text pence = indent pence ++ (pounds_text pence ++ codes "  ")

-- ---- worked rows

three_pounds_forty : pounds_text 340 ≡ codes "3.40"
unfolding digits
three_pounds_forty = refl

five_pence : pounds_text 5 ≡ codes "0.05"
unfolding digits
five_pence = refl

-- the most that an account has in a week
the_most : pounds_text 1_740_800_000 ≡ codes "17408000.00"
unfolding digits
the_most = refl

in_a_column : head_text 5 ≡ codes "   0.05  "
unfolding digits
in_a_column = refl

with_two_digits : head_text 1_050 ≡ codes "  10.50  "
unfolding digits
with_two_digits = refl

below_ten_pounds : head_text 999 ≡ codes "   9.99  "
unfolding digits
below_ten_pounds = refl

with_four_digits : head_text 100_000 ≡ codes "1000.00  "
unfolding digits
with_four_digits = refl

twenty_to_nine : clock_text 31_200 ≡ codes "08:40:00"
unfolding digits
twenty_to_nine = refl

end_of_the_day : clock_text 86_399 ≡ codes "23:59:59"
unfolding digits
end_of_the_day = refl

start_of_the_day : clock_text 0 ≡ codes "00:00:00"
unfolding digits
start_of_the_day = refl
