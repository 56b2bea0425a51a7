-- What is said of a fare file that is read: keys that nothing reads, and fares that look wrong.
use Rattle.std.specs.Prelude.{◌≡◌, ℕ, ◌+◌, ◌==◌, ◌||◌, ◌&&◌, nat_eq, nat_lt, max, Bool, true, false, List, [], ◌∷◌, ◌++◌, map, Option, Some, None, option_and_then, Result, Ok, Err, Vec, string_bytes, codes, if◌then◌else◌}
use Rattle.std.specs.List.{list_any}
use Rattle.std.specs.Cmp.Lexicographic.{pointwise}
use Rattle.std.specs.declared.alloc.Global.{Global}
use Rattle.toml.specs.Data.{Items, no_items, item, Members, no_members, member, get_member, as_array, as_table}
use Rattle.toml.specs.Parse.{parse_document}
use Rattle.pay_day.specs.declared.limits.TheConstants.{LAST_DAY}
use Rattle.pay_tables.specs.declared.limits.TheConstants.{MOST_FARE}
use Rattle.pay_fare_file.specs.declared.fault.FareFileFault.{FareFileFault}
use Rattle.pay_fare_file.specs.declared.key.Key.{Key}
use Rattle.pay_fare_file.specs.declared.key.Key.TheVariants as key
use Rattle.pay_fare_file.specs.declared.spot.Spot.{Spot}
use Rattle.pay_fare_file.specs.declared.spot.Spot.TheVariants.{AtKey, AtItem}
use Rattle.pay_warnings.specs.declared.warning.TableAt.{TableAt}
use Rattle.pay_warnings.specs.declared.warning.Concern.{Concern}
use Rattle.pay_warnings.specs.declared.warning.Concern.TheVariants.{NotRead, PeakBelowOff, FareOfZero, WeekBelowDay, CapOfZero, NoBands, NoHolidayAfter, NoHolidays}
use Rattle.pay_warnings.specs.declared.warning.Warning.{Warning}
use Rattle.pay_fare_file.specs.Keys.{integer_of, integer_at}
use Rattle.pay_fare_file.specs.Spots.{key_name}

-- ---- what may be said, each of a table

pub data Said : Type 0 where
  not_read : TableAt → List ℕ → Said
  peak_below_off : TableAt → ℕ → ℕ → Said
  fare_of_zero : TableAt → Said
  week_below_day : TableAt → ℕ → ℕ → Said
  cap_of_zero : TableAt → Said
  no_bands : TableAt → Said
  no_holiday_after : TableAt → ℕ → Said
  no_holidays : TableAt → Said

-- what a warning says
abbrev pub says_of : TableAt → Concern → Said
says_of at (NotRead name) = not_read at (string_bytes name)
says_of at (PeakBelowOff peak off) = peak_below_off at peak off
says_of at FareOfZero = fare_of_zero at
says_of at (WeekBelowDay week day) = week_below_day at week day
says_of at CapOfZero = cap_of_zero at
says_of at NoBands = no_bands at
says_of at (NoHolidayAfter day) = no_holiday_after at day
says_of at NoHolidays = no_holidays at

abbrev pub says : Warning → Said
says warning = says_of warning.table warning.concern

-- what some warnings say, in order
abbrev pub all_said : Vec Warning Global → List Said
all_said warnings = map says warnings.items

-- more was said after what was said before
abbrev pub Adds : List Said → Vec Warning Global → Vec Warning Global → Type 0
Adds more before after = all_said after ≡ all_said before ++ more

-- the file or an edition as a whole, and a place there
abbrev pub whole : Option ℕ → TableAt
whole day = record { edition = day; spot = None }

abbrev pub at_spot : Option ℕ → Spot → TableAt
at_spot day spot = record { edition = day; spot = Some spot }

-- ---- keys

-- the keys of a file that are read
abbrev pub file_keys : List Key
file_keys = key.Zones ∷ key.Minutes ∷ key.Rules ∷ key.Single ∷ key.Band ∷ key.Holidays ∷ key.Station ∷ key.Route ∷ key.Interchange ∷ key.Edition ∷ []

-- and those of the table at a key, or of each item of the array there
abbrev pub keys_in : Key → List Key
keys_in key.Rules = key.Bus ∷ key.Maximum ∷ key.Hopper ∷ key.SameFree ∷ key.SameLimit ∷ []
keys_in key.Single = key.From ∷ key.To ∷ key.Peak ∷ key.Off ∷ []
keys_in key.Band = key.From ∷ key.To ∷ key.Day ∷ key.Week ∷ []
keys_in key.Station = key.Place ∷ key.Low ∷ key.High ∷ key.Operator ∷ []
keys_in key.Route = key.Place ∷ key.Operator ∷ []
keys_in key.Interchange = key.A ∷ key.B ∷ key.Seconds ∷ []
keys_in key.Edition = key.Day ∷ key.Minutes ∷ key.Rules ∷ key.Single ∷ key.Band ∷ []
keys_in _ = []

abbrev pub is_among : List Key → List ℕ → Bool
is_among known name = list_any (λ k. pointwise nat_eq (key_name k) name) known

-- whether it is a station or a route, of which a name is read beside these
abbrev pub may_have_name : Option Spot → Bool
may_have_name (Some (AtItem key.Station number)) = true
may_have_name (Some (AtItem key.Route number)) = true
may_have_name _ = false

abbrev pub is_name : TableAt → List ℕ → Bool
is_name at name = may_have_name at.spot && pointwise nat_eq name (codes "name")

-- whether it is the file itself, of which operators and a currency are read beside these
abbrev pub is_own : Option ℕ → Option Spot → Bool
is_own None None = true
is_own _ _ = false

abbrev pub is_label_of_file : TableAt → List ℕ → Bool
is_label_of_file at name = is_own at.edition at.spot && (pointwise nat_eq name (codes "operators") || pointwise nat_eq name (codes "currency"))

-- each key of a table that is not among those that are read
abbrev pub unread_key : TableAt → List Key → List ℕ → List Said
unread_key at known name = if is_among known name || is_name at name || is_label_of_file at name then [] else not_read at name ∷ []

abbrev pub unread : TableAt → List Key → Members → List Said
unread at known no_members = []
unread at known (member name d ms) = unread_key at known name ++ unread at known ms

-- ---- fares and caps

-- what was read, and 0 where nothing was: a file that is read has each number
abbrev pub or_zero : Result ℕ FareFileFault → ℕ
or_zero (Ok n) = n
or_zero (Err fault) = 0

abbrev pub amount : Key → Members → ℕ
amount k ms = or_zero (integer_at (key_name k) 0 MOST_FARE ms)

-- a peak fare below the other
abbrev pub below_said : TableAt → ℕ → ℕ → List Said
below_said at peak off = if nat_lt peak off then peak_below_off at peak off ∷ [] else []

-- a cap of the week below that of the day
abbrev pub week_said : TableAt → ℕ → ℕ → List Said
week_said at day week = if nat_lt week day then week_below_day at week day ∷ [] else []

-- an amount of 0, of two
abbrev pub zero_said : Said → ℕ → ℕ → List Said
zero_said said one other = if one == 0 || other == 0 then said ∷ [] else []

abbrev pub prices_said : TableAt → ℕ → ℕ → List Said
prices_said at peak off = below_said at peak off ++ zero_said (fare_of_zero at) peak off

abbrev pub caps_said : TableAt → ℕ → ℕ → List Said
caps_said at day week = week_said at day week ++ zero_said (cap_of_zero at) day week

-- the fares of rules and of a single fare, and the caps of a band
abbrev pub fares_said : TableAt → Key → Members → List Said
fares_said at key.Rules ms = zero_said (fare_of_zero at) (amount key.Bus ms) (amount key.Maximum ms)
fares_said at key.Single ms = prices_said at (amount key.Peak ms) (amount key.Off ms)
fares_said at key.Band ms = caps_said at (amount key.Day ms) (amount key.Week ms)
fares_said at _ ms = []

-- ---- tables

-- a table at a key, or one of the array there
abbrev pub table_said : TableAt → Key → Members → List Said
table_said at k ms = unread at (keys_in k) ms ++ fares_said at k ms

abbrev pub in_table : (Members → List Said) → Option Members → List Said
in_table say None = []
in_table say (Some ms) = say ms

abbrev pub rules_said : Option ℕ → Members → List Said
rules_said day ms = in_table (table_said (at_spot day (AtKey key.Rules)) key.Rules) (option_and_then as_table (get_member (codes "rules") ms))

-- the items of the array at a key, if it is one
abbrev pub or_no_items : Option Items → Items
or_no_items None = no_items
or_no_items (Some ds) = ds

abbrev pub items_in : Key → Members → Items
items_in k ms = or_no_items (option_and_then as_array (get_member (key_name k) ms))

-- each of them that is a table, from a number on
abbrev pub items_said : Option ℕ → Key → ℕ → Items → List Said
items_said day k number no_items = []
items_said day k number (item d ds) = in_table (table_said (at_spot day (AtItem k number)) k) (as_table d) ++ items_said day k (number + 1) ds

abbrev pub array_said : Option ℕ → Key → Members → List Said
array_said day k ms = items_said day k 1 (items_in k ms)

-- whether there are bands
abbrev pub unless_any : Option ℕ → Items → List Said
unless_any day no_items = no_bands (whole day) ∷ []
unless_any day (item d ds) = []

abbrev pub bands_said : Option ℕ → Members → List Said
bands_said day ms = unless_any day (items_in key.Band ms)

-- what a file and its editions have both
abbrev pub shared_said : Option ℕ → Members → List Said
shared_said day ms = rules_said day ms ++ array_said day key.Single ms ++ array_said day key.Band ms ++ bands_said day ms

-- a file's own keys
abbrev pub own_said : Members → List Said
own_said ms = unread (whole None) file_keys ms ++ shared_said None ms ++ array_said None key.Station ms ++ array_said None key.Route ms ++ array_said None key.Interchange ms

-- ---- editions

abbrev pub edition_day : Members → ℕ
edition_day ms = or_zero (integer_at (codes "day") 0 LAST_DAY ms)

abbrev pub edition_said_on : ℕ → Members → List Said
edition_said_on day ms = unread (whole (Some day)) (keys_in key.Edition) ms ++ shared_said (Some day) ms

abbrev pub edition_said : Members → List Said
edition_said ms = edition_said_on (edition_day ms) ms

abbrev pub editions_said : Items → List Said
editions_said no_items = []
editions_said (item d ds) = in_table edition_said (as_table d) ++ editions_said ds

-- ---- holidays

-- the day on which the last edition begins, and 0 where there is none
abbrev pub day_of : Option Members → ℕ
day_of None = 0
day_of (Some ms) = edition_day ms

abbrev pub last_day : ℕ → Items → ℕ
last_day last no_items = last
last_day last (item d ds) = last_day (max last (day_of (as_table d))) ds

-- whether a holiday comes after a day
abbrev pub has_later : ℕ → Items → Bool
has_later last no_items = false
has_later last (item d ds) = nat_lt last (or_zero (integer_of 0 LAST_DAY d)) || has_later last ds

abbrev pub none_later_said : ℕ → List Said
none_later_said last = if last == 0 then no_holidays (whole None) ∷ [] else no_holiday_after (whole None) last ∷ []

abbrev pub holidays_said : ℕ → Items → List Said
holidays_said last holidays = if has_later last holidays then [] else none_later_said last

-- ---- the file

-- what is said of a file: first of its own keys, then of its editions, then of its holidays
abbrev pub file_said : Members → List Said
file_said ms = own_said ms ++ editions_said (items_in key.Edition ms) ++ holidays_said (last_day 0 (items_in key.Edition ms)) (items_in key.Holidays ms)

abbrev pub document_said : Option Members → List Said
document_said None = []
document_said (Some ms) = file_said ms

-- what is said of a text
abbrev pub text_said : List ℕ → List Said
text_said text = document_said (parse_document text)
