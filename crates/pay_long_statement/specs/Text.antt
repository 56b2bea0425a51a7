-- The rows of a long statement as fields that commas separate.
use Rattle.std.specs.Prelude.{◌≡◌, ℕ, ℤ, pos, negsuc, unsigned_abs, List, [], ◌∷◌, ◌++◌, Option, Some, None, codes, decimal, refl}
use Rattle.std.specs.Fmt.{digits}
use Rattle.std.specs.List.{flat_map}
use Rattle.csv.specs.Writing.{default_writer, row_text}
use Rattle.pay_dates.specs.Words.{date_text_of}
use Rattle.pay_day.specs.Words.{Stamp}
use Rattle.pay_names.specs.Words.{Named, name_at}
use Rattle.pay_rules.specs.Accepted.{Accepted}
use Rattle.pay_rules.specs.declared.posting.Posting.{Posting}
use Rattle.pay_tables.specs.Words.{FareEditions}
use Rattle.pay_explain.specs.Amounts.{clock_text, pounds_text}
use Rattle.pay_long_statement.specs.declared.row.Amount.{Amount}
use Rattle.pay_long_statement.specs.declared.row.Amount.TheVariants.{Due, Off, Posted}
use Rattle.pay_long_statement.specs.declared.row.Row.{Row}
use Rattle.pay_long_statement.specs.declared.row.RowKind.{RowKind}
use Rattle.pay_long_statement.specs.declared.row.RowKind.TheVariants as kind
use Rattle.pay_long_statement.specs.Weeks.{posted_rows, week_rows}

-- ---- fields

abbrev pub kind_text : RowKind → List ℕ
kind_text kind.Rail = codes "RAIL"
kind_text kind.Same = codes "SAME"
kind_text kind.Lone = codes "LONE"
kind_text kind.Bus = codes "BUS"
kind_text kind.Cap = codes "CAP"
kind_text kind.WeekCap = codes "WEEKCAP"
kind_text kind.Credit = codes "CREDIT"
kind_text kind.Unused = codes "UNUSED"
kind_text kind.Posted = codes "POSTED"

-- the number of a place, and its name, if it has one
abbrev pub number_text : Option ℕ → List ℕ
number_text None = []
number_text (Some place) = decimal place

abbrev pub or_nothing : Option (List ℕ) → List ℕ
or_nothing None = []
or_nothing (Some name) = name

abbrev pub name_text : Named → Option ℕ → List ℕ
name_text names None = []
name_text names (Some place) = or_nothing (name_at place names)

-- what the clocks show
abbrev pub time_text : Option Stamp → List ℕ
time_text None = []
time_text (Some stamp) = clock_text stamp.second

-- an amount below 0 has a hyphen before it
abbrev pub signed_text : ℤ → List ℕ
signed_text (pos pence) = pounds_text pence
signed_text (negsuc less) = codes "-" ++ pounds_text (unsigned_abs (negsuc less))

-- what is due, or taken off
abbrev pub amount_text : Amount → List ℕ
amount_text (Due pence) = pounds_text pence
amount_text (Off pence) = codes "-" ++ pounds_text pence
amount_text (Posted pence) = []

-- and what was posted
abbrev pub posted_text : Amount → List ℕ
posted_text (Due pence) = []
posted_text (Off pence) = []
posted_text (Posted pence) = signed_text pence

-- ---- rows

-- the names of the fields
abbrev pub columns : List (List ℕ)
columns =
    codes "date" ∷ codes "kind" ∷ codes "from" ∷ codes "from_name" ∷ codes "to" ∷ codes "to_name" ∷ codes "start" ∷ codes "end" ∷ codes "amount"
    ∷ codes "posted" ∷ []

abbrev pub fields_of : Named → Row → List (List ℕ)
fields_of names row =
    date_text_of row.day ∷ kind_text row.kind ∷ number_text row.from ∷ name_text names row.from ∷ number_text row.to ∷ name_text names row.to
    ∷ time_text row.start ∷ time_text row.end ∷ amount_text row.amount ∷ posted_text row.amount ∷ []

-- each row as `csv` writes it: a field with a comma, a quotation mark or the end of a line in it stands in quotation marks
abbrev pub row_bytes : Named → Row → List ℕ
row_bytes names row = row_text default_writer (fields_of names row)

abbrev pub rows_bytes : Named → List Row → List ℕ
rows_bytes names rows = flat_map (row_bytes names) rows

-- the names of the fields, and the rows of the whole week of a day, and then those of its postings
abbrev pub statement_text : Named → FareEditions → Accepted → ℕ → List Posting → List ℕ
statement_text names editions accepted day postings = row_text default_writer columns ++ rows_bytes names (week_rows editions accepted day ++ posted_rows postings)

-- ---- worked rows

taken_off : amount_text (Off 130) ≡ codes "-1.30"
unfolding digits
taken_off = refl

due_for_it : amount_text (Due 340) ≡ codes "3.40"
unfolding digits
due_for_it = refl

given_back : posted_text (Posted (negsuc 149)) ≡ codes "-1.50"
unfolding digits
given_back = refl

charged : posted_text (Posted (pos 890)) ≡ codes "8.90"
unfolding digits
charged = refl

no_amount : amount_text (Posted (pos 890)) ≡ []
no_amount = refl

no_name : name_text ((10, codes "Abbey") ∷ []) (Some 12) ≡ []
no_name = refl

no_place : name_text ((10, codes "Abbey") ∷ []) None ≡ []
no_place = refl

the_name : name_text ((10, codes "Abbey") ∷ []) (Some 10) ≡ codes "Abbey"
the_name = refl
