-- The statement of an account: the row that names the fields, and a row for each journey.
use Rattle.std.specs.Prelude.{◌≡◌, ℕ, ◌/◌, ◌%◌, ◌+◌, nat_lt, List, [], ◌∷◌, ◌++◌, Option, Some, None, slice_get, if◌then◌else◌, codes, decimal, refl}
use Rattle.std.specs.Fmt.{digits}
use Rattle.std.specs.List.{join_with_byte, flat_map}
use Rattle.pay_tables.specs.declared.band.Band.{Band}
use Rattle.pay_tables.specs.declared.band.Cover.{Cover}
use Rattle.pay_tables.specs.declared.band.Cover.TheVariants.{Buses, Zones}
use Rattle.pay_tables.specs.Words.{FareEditions, FareTables, on}
use Rattle.pay_rules.specs.declared.shown.Line.{Line}
use Rattle.pay_rules.specs.declared.shown.LineKind.{LineKind}
use Rattle.pay_rules.specs.declared.shown.LineKind.TheVariants as kind
use Rattle.pay_rules.specs.KindWords.{word_of_kind}

-- ---- fields

-- a number of one digit has a zero before it
abbrev pub leading_zero : ℕ → List ℕ
leading_zero number = if nat_lt number 10 then codes "0" else []

-- a number in two digits at least
abbrev pub two_digits : ℕ → List ℕ
two_digits number = leading_zero number ++ decimal number

-- the time at a second of the day: hours, minutes and seconds
abbrev pub time_of_day : ℕ → List ℕ
time_of_day second =
    two_digits (second / 3_600) ++ codes ":" ++ two_digits (second / 60 % 60) ++ codes ":" ++ two_digits (second % 60)

-- the name of a band by what it covers: `bus`, or its zones as `1-2`
abbrev pub cover_name : Cover → List ℕ
cover_name Buses = codes "bus"
cover_name (Zones zones) = decimal zones.from ++ codes "-" ++ decimal zones.to

-- the name of a band, and a hyphen where there is none
abbrev pub band_name : Option Band → List ℕ
band_name None = codes "-"
band_name (Some band) = cover_name band.cover

-- the band at a place of tables
abbrev pub band_at : FareTables → Option ℕ → Option Band
band_at tables None = None
band_at tables (Some place) = slice_get tables.bands place

-- ---- rows

-- the names of the fields
abbrev pub columns : List (List ℕ)
columns = codes "day" ∷ codes "kind" ∷ codes "from" ∷ codes "to" ∷ codes "start" ∷ codes "fare" ∷ codes "band" ∷ []

-- a journey: its service day, what it was, from where to where, the local time of its first tap, its fare in pence before caps, and its band, by the edition of its own day
abbrev pub fields_of_line : FareEditions → Line → List (List ℕ)
fields_of_line editions line =
    decimal line.day ∷ word_of_kind line.kind ∷ decimal line.from ∷ decimal line.to ∷ time_of_day line.second ∷ decimal line.fare
    ∷ band_name (band_at (on editions line.day) line.band) ∷ []

-- fields as a row: a comma between each two, and the newline at the end
abbrev pub row : List (List ℕ) → List ℕ
row fields = join_with_byte 44 fields ++ codes "\n"

-- journeys, a row for each
abbrev pub rows_of_lines : FareEditions → List Line → List ℕ
rows_of_lines editions = flat_map (λ line. row (fields_of_line editions line))

-- the statement of journeys: the names of the fields, and the journeys in their order
abbrev pub statement_text : FareEditions → List Line → List ℕ
statement_text editions lines = row columns ++ rows_of_lines editions lines

-- ---- worked rows

-- tables with the bands of the buses and of zones 1 to 2, and a file of them alone
abbrev with_two_bands : FareTables → FareTables
with_two_bands tables = record tables {
  bands = record { cover = Buses; day = 525; week = 2_470 } ∷ record { cover = Zones (record { from = 1; to = 2 }); day = 890; week = 4_470 } ∷ [];
}

abbrev file : FareTables → FareEditions
file tables = record { own = with_two_bands tables; items = [] }

-- and one whose bands change places on the day after that Monday
abbrev changing : FareTables → FareEditions
changing tables = record {
  own = with_two_bands tables;
  items = record {
    day = 19_731;
    tables = record tables { bands = record { cover = Zones (record { from = 1; to = 3 }); day = 1_060; week = 5_300 } ∷ record { cover = Buses; day = 540; week = 2_500 } ∷ [] };
  } ∷ [];
}

-- a journey of Monday, 2024-01-08, when London's clocks show UTC
abbrev on_monday : LineKind → ℕ → ℕ → ℕ → ℕ → Option ℕ → Line
on_monday what from to second fare band =
    record { day = 19_730; kind = what; from = from; to = to; utc = 1_704_672_000 + second; second = second; fare = fare; band = band }

first_row : row columns ≡ codes "day,kind,from,to,start,fare,band\n"
first_row = refl

by_rail : (tables : FareTables) → row (fields_of_line (file tables) (on_monday kind.Rail 10 12 25_200 340 (Some 1))) ≡ codes "19730,RAIL,10,12,07:00:00,340,1-2\n"
unfolding digits
by_rail tables = refl

-- a tap on the way in without its partner, which no band covers
alone : (tables : FareTables) → row (fields_of_line (file tables) (on_monday kind.Lone 10 0 43_200 860 None)) ≡ codes "19730,LONE,10,0,12:00:00,860,-\n"
unfolding digits
alone tables = refl

by_bus : (tables : FareTables) → row (fields_of_line (file tables) (on_monday kind.Bus 50 0 28_800 175 (Some 0))) ≡ codes "19730,BUS,50,0,08:00:00,175,bus\n"
unfolding digits
by_bus tables = refl

-- a band is named by the edition of the line's own day
by_bus_later : (tables : FareTables) → row (fields_of_line (changing tables) (record (on_monday kind.Bus 50 0 28_800 180 (Some 1)) { day = 19_731 })) ≡ codes "19731,BUS,50,0,08:00:00,180,bus\n"
unfolding digits
by_bus_later tables = refl

by_bus_before : (tables : FareTables) → row (fields_of_line (changing tables) (on_monday kind.Bus 50 0 28_800 175 (Some 0))) ≡ codes "19730,BUS,50,0,08:00:00,175,bus\n"
unfolding digits
by_bus_before tables = refl

-- on 2024-03-31 London's clocks are an hour ahead: 03:30 by UTC is 04:30
in_summer : (editions : FareEditions) → row (fields_of_line editions (record { day = 19_813; kind = kind.Same; from = 10; to = 10; utc = 1_711_855_800; second = 16_200; fare = 0; band = None }))
    ≡ codes "19813,SAME,10,10,04:30:00,0,-\n"
unfolding digits
in_summer editions = refl

midnight : time_of_day 0 ≡ codes "00:00:00"
unfolding digits
midnight = refl

single_digits : time_of_day 25_509 ≡ codes "07:05:09"
unfolding digits
single_digits = refl

last_second : time_of_day 86_399 ≡ codes "23:59:59"
unfolding digits
last_second = refl

no_such_band : (tables : FareTables) → band_name (band_at (with_two_bands tables) (Some 2)) ≡ codes "-"
no_such_band tables = refl

no_journeys : (editions : FareEditions) → statement_text editions [] ≡ codes "day,kind,from,to,start,fare,band\n"
no_journeys editions = refl

two_journeys : (tables : FareTables)
    → statement_text (file tables) (on_monday kind.Rail 10 12 25_200 340 (Some 1) ∷ on_monday kind.Lone 10 0 43_200 860 None ∷ [])
    ≡ codes "day,kind,from,to,start,fare,band\n19730,RAIL,10,12,07:00:00,340,1-2\n19730,LONE,10,0,12:00:00,860,-\n"
unfolding digits
two_journeys tables = refl
