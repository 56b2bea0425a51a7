-- A settlement as a report: fields that commas separate.
use Rattle.std.specs.Prelude.{◌≡◌, ℕ, ◌+◌, ◌/◌, ◌%◌, nat_le, ◌&&◌, if◌then◌else◌, ℤ, pos, negsuc, unsigned_abs, List, [], ◌∷◌, ◌++◌, codes, decimal, flat_map, refl}
use Rattle.std.specs.Fmt.{digits}
use Rattle.csv.specs.Writing.{default_writer, row_text}
use Rattle.pay_dates.specs.Words.{date_text_of}
use Rattle.pay_day.specs.declared.limits.TheConstants.{FIRST_DAY, LAST_DAY}
use Rattle.pay_settle.specs.declared.settlement.Settlement.{Settlement}
use Rattle.pay_settle.specs.declared.text.RowKind.{RowKind}
use Rattle.pay_settle.specs.declared.text.RowKind.TheVariants as kind

-- ---- fields

-- what a row tells, in a word
abbrev pub kind_text : RowKind → List ℕ
kind_text kind.Total = codes "TOTAL"
kind_text kind.Operator = codes "OPERATOR"
kind_text kind.Week = codes "WEEK"
kind_text kind.Account = codes "ACCOUNT"

-- pence in pounds and pence
abbrev pub pounds_text : ℕ → List ℕ
pounds_text pence = decimal (pence / 100) ++ (codes "." ++ (decimal (pence / 10 % 10) ++ decimal (pence % 10)))

-- below 0 a hyphen stands before it
abbrev pub amount_text : ℤ → List ℕ
amount_text (pos pence) = pounds_text pence
amount_text (negsuc less) = codes "-" ++ pounds_text (unsigned_abs (negsuc less))

-- the date of a week's Monday, which is a service day: what is none stands as its number
abbrev pub week_text : ℕ → List ℕ
week_text week = if nat_le FIRST_DAY week && nat_le week LAST_DAY then date_text_of week else decimal week

-- ---- rows

-- the names of the fields
abbrev pub columns : List (List ℕ)
columns = codes "what" ∷ codes "number" ∷ codes "week" ∷ codes "amount" ∷ []

abbrev pub fields_of : RowKind → List ℕ → List ℕ → ℤ → List (List ℕ)
fields_of kind number week amount = kind_text kind ∷ number ∷ week ∷ amount_text amount ∷ []

-- the sum of all
abbrev pub total_fields : ℤ → List (List ℕ)
total_fields sum = fields_of kind.Total [] [] sum

-- what an operator is owed
abbrev pub operator_fields : ℕ → ℤ → List (List ℕ)
operator_fields number sum = fields_of kind.Operator (decimal number) [] sum

-- the sum of a week
abbrev pub week_fields : ℕ × ℤ → List (List ℕ)
week_fields one = fields_of kind.Week [] (week_text one.0) one.1

-- that of an account and a week
abbrev pub account_fields : (ℕ × ℕ) × ℤ → List (List ℕ)
account_fields one = fields_of kind.Account (decimal one.0.0) (week_text one.0.1) one.1

-- each row as `csv` writes it
abbrev pub row_bytes : List (List ℕ) → List ℕ
row_bytes fields = row_text default_writer fields

abbrev pub operator_row : ℕ → ℤ → List ℕ
operator_row number sum = row_bytes (operator_fields number sum)

abbrev pub week_row : ℕ × ℤ → List ℕ
week_row one = row_bytes (week_fields one)

abbrev pub account_row : (ℕ × ℕ) × ℤ → List ℕ
account_row one = row_bytes (account_fields one)

-- those of the operators from a number on
abbrev pub operator_rows : ℕ → List ℤ → List ℕ
operator_rows number [] = []
operator_rows number (sum ∷ sums) = operator_row number sum ++ operator_rows (number + 1) sums

-- the names of the fields, the sum of all, and the sums of operators, of weeks, and of accounts and weeks
abbrev pub report_text : Settlement → List ℕ
report_text sums =
    row_bytes columns ++ (row_bytes (total_fields sums.total) ++ (operator_rows 1 sums.operators ++ (flat_map week_row sums.weeks.entries ++ flat_map account_row sums.accounts.entries)))

-- ---- worked rows

owed : amount_text (pos 340) ≡ codes "3.40"
unfolding digits
owed = refl

given_back : amount_text (negsuc 149) ≡ codes "-1.50"
unfolding digits
given_back = refl

five_pence : amount_text (pos 5) ≡ codes "0.05"
unfolding digits
five_pence = refl

nothing : amount_text (pos 0) ≡ codes "0.00"
unfolding digits
nothing = refl

of_no_day : week_text 3 ≡ codes "3"
unfolding digits
of_no_day = refl

of_all : total_fields (negsuc 149) ≡ codes "TOTAL" ∷ [] ∷ [] ∷ codes "-1.50" ∷ []
unfolding digits
of_all = refl

of_operator : operator_fields 12 (pos 360) ≡ codes "OPERATOR" ∷ codes "12" ∷ [] ∷ codes "3.60" ∷ []
unfolding digits
of_operator = refl

of_account : account_fields ((7, 3), pos 890) ≡ codes "ACCOUNT" ∷ codes "7" ∷ codes "3" ∷ codes "8.90" ∷ []
unfolding digits
of_account = refl
