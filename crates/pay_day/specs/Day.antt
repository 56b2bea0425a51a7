-- What a service day is.
use Rattle.std.specs.Prelude.{◌≡◌, ◌&&◌, nat_le, Bool, true, false, ℕ, ◌+◌, ◌-◌, ◌%◌, ◌<◌, ◌≤◌, ℤ, pos, ◌+ℤ◌, ◌-ℤ◌, if◌then◌else◌, nat_lt, unsigned_abs, refl}
use Rattle.std.specs.Int.{int_div_euclid, int_rem_euclid}
use Rattle.jiff.specs.Words.{plain_zone, nanos_of_seconds, offset_at}
use Rattle.jiff.specs.declared.tz.timezone.TimeZone.{TimeZone}
use Rattle.pay_day.specs.declared.limits.TheConstants.{FIRST_INSTANT, LAST_INSTANT, FIRST_DAY, LAST_DAY, SECONDS_PER_DAY, SERVICE_DAY_START, DAYS_PER_WEEK}

-- an instant as it is kept: seconds of the Unix clock, the service day, and the local second of the day
pub record Stamp : Type 0 where
  pub utc : ℕ
  pub day : ℕ
  pub second : ℕ

-- instants are taken from 1970-01-08 to the end of 2099
abbrev pub IsInstant : ℕ → Type 0
IsInstant utc = (FIRST_INSTANT ≤ utc) × (utc ≤ LAST_INSTANT)

-- whether an instant is one of these
abbrev pub is_instant : ℕ → Bool
is_instant utc = nat_le FIRST_INSTANT utc && nat_le utc LAST_INSTANT

-- days are counted from 1970-01-01
abbrev pub IsDay : ℕ → Type 0
IsDay day = (FIRST_DAY ≤ day) × (day ≤ LAST_DAY)

-- each number of a stamp is in its range
pub record IsStamp (s : Stamp) : Type 0 where
  pub utc : IsInstant s.utc
  pub day : IsDay s.day
  pub second : s.second < SECONDS_PER_DAY

-- how far the zone's clock is ahead of UTC at an instant, in seconds
abbrev pub offset_of : TimeZone → ℕ → ℤ
offset_of zone utc = offset_at (plain_zone zone) (nanos_of_seconds (pos utc))

-- seconds from 1970-01-01 00:00:00 to what the zone's clock shows at the instant
unfoldable pub local_seconds : TimeZone → ℕ → ℤ
local_seconds zone utc = pos utc +ℤ offset_of zone utc

-- the date that the zone's calendar shows, counted from 1970-01-01
unfoldable pub local_date : TimeZone → ℕ → ℤ
local_date zone utc = int_div_euclid (local_seconds zone utc) (pos SECONDS_PER_DAY)

-- the second of that date, from 0 at midnight
unfoldable pub local_second : TimeZone → ℕ → ℕ
local_second zone utc = unsigned_abs (int_rem_euclid (local_seconds zone utc) (pos SECONDS_PER_DAY))

-- the service day: the local date, less one day before 04:30
unfoldable pub service_day : TimeZone → ℕ → ℤ
service_day zone utc =
    if nat_lt (local_second zone utc) SERVICE_DAY_START then local_date zone utc -ℤ pos 1
    else local_date zone utc

-- the instant, its service day and its local second
abbrev pub stamp_of : TimeZone → ℕ → Stamp
stamp_of zone utc = record {
  utc = utc;
  day = unsigned_abs (service_day zone utc);
  second = local_second zone utc;
}

-- the day of the week, from 0 on a Monday to 6 on a Sunday: day 0 was a Thursday
abbrev pub day_of_week : ℕ → ℕ
day_of_week day = (day + 3) % DAYS_PER_WEEK

-- the Monday of a day's week, and its Sunday
abbrev pub monday : ℕ → ℕ
monday day = day - day_of_week day

abbrev pub sunday : ℕ → ℕ
sunday day = monday day + (DAYS_PER_WEEK - 1)

-- whether another day is of a day's week, from that Monday through that Sunday
abbrev pub is_in_week_of : ℕ → ℕ → Bool
is_in_week_of day other = nat_le (monday day) other && nat_lt other (monday day + DAYS_PER_WEEK)

-- 2024-01-08 is a Monday, and so is the week's first day of the Sunday after it
monday_of_a_monday : monday 19730 ≡ 19730
monday_of_a_monday = refl

monday_of_a_sunday : monday 19736 ≡ 19730
monday_of_a_sunday = refl

monday_of_the_sunday_before : monday 19729 ≡ 19723
monday_of_the_sunday_before = refl

-- the Sunday of that week is 2024-01-14
sunday_of_a_monday : sunday 19730 ≡ 19736
sunday_of_a_monday = refl

sunday_of_a_sunday : sunday 19736 ≡ 19736
sunday_of_a_sunday = refl

-- of the week of Wednesday, 2024-01-10, are its Monday and its Sunday, and not the days beside them
before_the_week : is_in_week_of 19732 19729 ≡ false
before_the_week = refl

first_of_the_week : is_in_week_of 19732 19730 ≡ true
first_of_the_week = refl

last_of_the_week : is_in_week_of 19732 19736 ≡ true
last_of_the_week = refl

after_the_week : is_in_week_of 19732 19737 ≡ false
after_the_week = refl
