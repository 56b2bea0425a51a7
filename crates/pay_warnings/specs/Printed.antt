-- What is printed of what is said of a file.
use Rattle.std.specs.Prelude.{ℕ, nat_lt, ◌==◌, ◌||◌, Bool, List, [], ◌++◌, Option, Some, None, string_bytes, codes, if◌then◌else◌}
use Rattle.std.specs.List.{list_any}
use Rattle.std.specs.Fmt.{decimal}
use Rattle.pay_fare_file.specs.declared.spot.Spot.{Spot}
use Rattle.pay_fare_file.specs.Printed.{named_day, spot_text}
use Rattle.pay_warnings.specs.declared.warning.TableAt.{TableAt}
use Rattle.pay_warnings.specs.declared.warning.Concern.{Concern}
use Rattle.pay_warnings.specs.declared.warning.Concern.TheVariants.{NotRead, PeakBelowOff, FareOfZero, WeekBelowDay, CapOfZero, NoBands, NoHolidayAfter, NoHolidays}
use Rattle.pay_warnings.specs.Warnings.{Said, not_read, peak_below_off, fare_of_zero, week_below_day, cap_of_zero, no_bands, no_holiday_after, no_holidays}

-- where a warning is of: nothing is printed for the file itself
abbrev pub table_text_of : Option ℕ → Option Spot → List ℕ
table_text_of None None = []
table_text_of None (Some spot) = codes "at " ++ spot_text spot ++ codes ": "
table_text_of (Some day) None = codes "at the edition of " ++ named_day day ++ codes ": "
table_text_of (Some day) (Some spot) = codes "at the edition of " ++ named_day day ++ codes ", " ++ spot_text spot ++ codes ": "

abbrev pub table_text : TableAt → List ℕ
table_text at = table_text_of at.edition at.spot

-- the name of a key, and a sign for one that would break the line
abbrev pub is_control : ℕ → Bool
is_control byte = nat_lt byte 32 || byte == 127

abbrev pub shown_name : List ℕ → List ℕ
shown_name name = if list_any is_control name then codes "?" else name

abbrev pub concern_text : Concern → List ℕ
concern_text (NotRead name) = codes "key " ++ shown_name (string_bytes name) ++ codes " is not read"
concern_text (PeakBelowOff peak off) = codes "peak " ++ decimal peak ++ codes " is below off " ++ decimal off
concern_text FareOfZero = codes "a fare of 0"
concern_text (WeekBelowDay week day) = codes "week " ++ decimal week ++ codes " is below day " ++ decimal day
concern_text CapOfZero = codes "a cap of 0"
concern_text NoBands = codes "no bands"
concern_text (NoHolidayAfter day) = codes "no holiday after " ++ named_day day
concern_text NoHolidays = codes "no holidays"

-- a line of what is said
abbrev pub said_text : Said → List ℕ
said_text (not_read at name) = table_text at ++ (codes "key " ++ shown_name name ++ codes " is not read")
said_text (peak_below_off at peak off) = table_text at ++ (codes "peak " ++ decimal peak ++ codes " is below off " ++ decimal off)
said_text (fare_of_zero at) = table_text at ++ codes "a fare of 0"
said_text (week_below_day at week day) = table_text at ++ (codes "week " ++ decimal week ++ codes " is below day " ++ decimal day)
said_text (cap_of_zero at) = table_text at ++ codes "a cap of 0"
said_text (no_bands at) = table_text at ++ codes "no bands"
said_text (no_holiday_after at day) = table_text at ++ (codes "no holiday after " ++ named_day day)
said_text (no_holidays at) = table_text at ++ codes "no holidays"
