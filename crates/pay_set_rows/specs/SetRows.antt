-- Archived taps and corrections as rows of whole numbers.
use Rattle.std.specs.Prelude.{◌≡◌, ℕ, ◌-◌, ◌&&◌, Bool, if◌then◌else◌, ℤ, pos, Option, Some, None, refl}
use Rattle.std.specs.Ordering.{int_eq}
use Rattle.pay_day.specs.Words.{Stamp}
use Rattle.pay_day.specs.declared.limits.TheConstants.{FIRST_INSTANT, LAST_INSTANT, FIRST_DAY, LAST_DAY, SECONDS_PER_DAY}
use Rattle.pay_rules.specs.declared.tap.Kind.{Kind}
use Rattle.pay_rules.specs.declared.tap.Kind.TheVariants.{In, Out, Bus}
use Rattle.pay_rules.specs.declared.tap.Tap.{Tap}
use Rattle.pay_rules.specs.declared.limits.TheConstants.{MOST_CREDIT}
use Rattle.pay_rules.specs.declared.fix.Fix.{Fix}
use Rattle.pay_rules.specs.declared.fix.What.{What}
use Rattle.pay_rules.specs.declared.fix.What.TheVariants.{Void, Fill, Credit, Drop}
use Rattle.pay_rows.specs.declared.row.TapRow.{TapRow}
use Rattle.pay_rows.specs.declared.row.FixRow.{FixRow}
use Rattle.pay_set_rows.specs.Ranged.{◌>>=◌, ranged}

-- the number of a kind
abbrev pub kind_number : Kind → ℕ
kind_number In = 0
kind_number Out = 1
kind_number Bus = 2

-- a tap as a row
abbrev pub tap_row : Tap → TapRow
tap_row tap = record {
  reader = pos tap.reader;
  seq = pos tap.seq;
  utc = pos tap.stamp.utc;
  day = pos tap.stamp.day;
  second = pos tap.stamp.second;
  place = pos tap.place;
  kind = pos (kind_number tap.kind);
}

-- the form of a correction, and its five numbers, of which those that it has not are 0
abbrev pub what_row : Fix → What → FixRow
what_row fix (Void reader seq) = record { staff = pos fix.staff; seq = pos fix.seq; what = pos 0; a = pos reader; b = pos seq; c = pos 0; d = pos 0; e = pos 0 }
what_row fix (Fill stamp place kind) = record { staff = pos fix.staff; seq = pos fix.seq; what = pos 1; a = pos stamp.utc; b = pos stamp.day; c = pos stamp.second; d = pos place; e = pos (kind_number kind) }
what_row fix (Credit credit) = record { staff = pos fix.staff; seq = pos fix.seq; what = pos 2; a = pos credit.day; b = pos credit.pence; c = pos 0; d = pos 0; e = pos 0 }
what_row fix (Drop staff seq) = record { staff = pos fix.staff; seq = pos fix.seq; what = pos 3; a = pos staff; b = pos seq; c = pos 0; d = pos 0; e = pos 0 }

-- a correction as a row
abbrev pub fix_row : Fix → FixRow
fix_row fix = what_row fix fix.what

-- readers, staff and places from 1
abbrev pub in_sixteen_bits : ℤ → Option ℕ
in_sixteen_bits = ranged 1 65_535

abbrev pub as_seq : ℤ → Option ℕ
as_seq = ranged 0 4_294_967_295

-- the kind of a number
abbrev pub kind_of : ℤ → Option Kind
kind_of number =
    if int_eq number (pos 0) then Some In
    else if int_eq number (pos 1) then Some Out
    else if int_eq number (pos 2) then Some Bus
    else None

-- an instant and where it falls, each number in its range
abbrev pub stamp_from : ℤ → ℤ → ℤ → Option Stamp
stamp_from utc day second = do
  utc ← ranged FIRST_INSTANT LAST_INSTANT utc
  day ← ranged FIRST_DAY LAST_DAY day
  second ← ranged 0 (SECONDS_PER_DAY - 1) second
  Some (record { utc = utc; day = day; second = second })

-- the tap of a row, if each number is in its range
abbrev pub tap_from_row : ℕ → TapRow → Option Tap
tap_from_row account row = do
  reader ← in_sixteen_bits row.reader
  seq ← as_seq row.seq
  stamp ← stamp_from row.utc row.day row.second
  place ← in_sixteen_bits row.place
  kind ← kind_of row.kind
  Some (record { account = account; reader = reader; seq = seq; place = place; kind = kind; stamp = stamp })

abbrev pub is_zero : ℤ → Bool
is_zero number = int_eq number (pos 0)

-- whether the numbers of a Fill alone are 0
abbrev pub has_two_numbers : FixRow → Bool
has_two_numbers row = is_zero row.c && is_zero row.d && is_zero row.e

-- a Void names a tap, and a Drop a correction
abbrev pub named_from : (ℕ → ℕ → What) → FixRow → Option What
named_from form row = do
  first ← in_sixteen_bits row.a
  seq ← as_seq row.b
  if has_two_numbers row then Some (form first seq) else None

abbrev pub fill_from : FixRow → Option What
fill_from row = do
  stamp ← stamp_from row.a row.b row.c
  place ← in_sixteen_bits row.d
  kind ← kind_of row.e
  Some (Fill stamp place kind)

abbrev pub credit_from : FixRow → Option What
credit_from row = do
  day ← ranged FIRST_DAY LAST_DAY row.a
  pence ← ranged 1 MOST_CREDIT row.b
  if has_two_numbers row then Some (Credit (record { day = day; pence = pence })) else None

-- what a row does, by its form
abbrev pub what_from : FixRow → Option What
what_from row =
    if int_eq row.what (pos 0) then named_from Void row
    else if int_eq row.what (pos 1) then fill_from row
    else if int_eq row.what (pos 2) then credit_from row
    else if int_eq row.what (pos 3) then named_from Drop row
    else None

-- the correction of a row, if each number is in its range, and 0 where its form has none
abbrev pub fix_from_row : ℕ → FixRow → Option Fix
fix_from_row account row = do
  staff ← in_sixteen_bits row.staff
  seq ← as_seq row.seq
  what ← what_from row
  Some (record { account = account; staff = staff; seq = seq; what = what })

-- ---- worked rows

bus_row : TapRow
bus_row = record { reader = pos 1; seq = pos 4; utc = pos 1_704_697_200; day = pos 19_730; second = pos 25_200; place = pos 50; kind = pos 2 }

bus_tap : Tap
bus_tap = record { account = 7; reader = 1; seq = 4; place = 50; kind = Bus; stamp = record { utc = 1_704_697_200; day = 19_730; second = 25_200 } }

tap_of_a_row : tap_from_row 7 bus_row ≡ Some bus_tap
unfolding bus_row bus_tap
tap_of_a_row = refl

row_of_a_tap : tap_row bus_tap ≡ bus_row
unfolding bus_row bus_tap
row_of_a_tap = refl

no_kind : tap_from_row 7 (record bus_row { kind = pos 3 }) ≡ None
unfolding bus_row
no_kind = refl

no_reader : tap_from_row 7 (record bus_row { reader = pos 0 }) ≡ None
unfolding bus_row
no_reader = refl

credit_row : FixRow
credit_row = record { staff = pos 3; seq = pos 2; what = pos 2; a = pos 19_730; b = pos 100; c = pos 0; d = pos 0; e = pos 0 }

credit_of_a_row : fix_from_row 7 credit_row ≡ Some (record { account = 7; staff = 3; seq = 2; what = Credit (record { day = 19_730; pence = 100 }) })
unfolding credit_row
credit_of_a_row = refl

no_form : fix_from_row 7 (record credit_row { what = pos 4 }) ≡ None
unfolding credit_row
no_form = refl

not_named : fix_from_row 7 (record credit_row { c = pos 1 }) ≡ None
unfolding credit_row
not_named = refl
