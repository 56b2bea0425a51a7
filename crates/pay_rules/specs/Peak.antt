-- When a journey is peak.
use Rattle.std.specs.Prelude.{◌≡◌, ℕ, ◌==◌, ◌&&◌, ◌||◌, not, nat_le, nat_lt, Bool, true, false, refl}
use Rattle.pay_day.specs.Words.{Stamp, day_of_week}
use Rattle.pay_day.specs.declared.limits.TheConstants.{SATURDAY}
use Rattle.pay_tables.specs.Words.{FareTables, is_holiday, low_of}
use Rattle.pay_rules.specs.LinkedLegs.{LinkedLegs}
use Rattle.pay_rules.specs.RailJourneys.{first_tap}
use Rattle.pay_rules.specs.declared.journey.Journey.{Journey}
use Rattle.pay_rules.specs.declared.journey.Journey.TheVariants.{Run, Same, Lone, Bus}
use Rattle.pay_rules.specs.declared.limits.TheConstants.{MORNING_PEAK_START, MORNING_PEAK_END, EVENING_PEAK_START, EVENING_PEAK_END}
use Rattle.pay_rules.specs.Runs.{span_of_legs, first_station, last_station}

-- Monday to Friday
abbrev pub is_weekday : ℕ → Bool
is_weekday day = nat_lt (day_of_week day) SATURDAY

-- the local seconds from 06:30:00 up to, and without, 09:30:00
abbrev pub is_morning : ℕ → Bool
is_morning second = nat_le MORNING_PEAK_START second && nat_lt second MORNING_PEAK_END

-- and from 16:00:00 up to, and without, 19:00:00
abbrev pub is_evening : ℕ → Bool
is_evening second = nat_le EVENING_PEAK_START second && nat_lt second EVENING_PEAK_END

-- whether an instant is at a peak time: in the morning or the evening of a weekday that is no public holiday
abbrev pub is_peak_time : FareTables → Stamp → Bool
is_peak_time tables stamp = is_weekday stamp.day && not (is_holiday tables stamp.day) && (is_morning stamp.second || is_evening stamp.second)

-- whether a run of legs goes into zone 1: its span begins there, its first station is outside, and its last one is not
abbrev pub is_into_zone_one : FareTables → LinkedLegs → Bool
is_into_zone_one tables legs =
    (span_of_legs tables legs).from == 1 && nat_lt 1 (low_of (first_station tables legs)) && low_of (last_station tables legs) == 1

-- The evening exception: a run that starts in the evening and goes into zone 1 is off-peak all the same. It is said of runs alone: a leg that ends
-- where it began, a lone tap and a boarding have one station or none, so that none of them comes into zone 1 from outside.
abbrev pub is_excepted : FareTables → Journey → Bool
is_excepted tables (Run legs) = is_evening legs.first.entry.stamp.second && is_into_zone_one tables legs
is_excepted tables (Same leg) = false
is_excepted tables (Lone tap) = false
is_excepted tables (Bus tap pays) = false

-- a journey is peak if its first tap is at a peak time, and the evening exception is not for it
abbrev pub is_peak : FareTables → Journey → Bool
is_peak tables journey = is_peak_time tables (first_tap journey).stamp && not (is_excepted tables journey)

-- ---- worked rows: a Sunday, 2024-01-07, and the days after it

sunday : is_weekday 19_729 ≡ false
sunday = refl

monday : is_weekday 19_730 ≡ true
monday = refl

friday : is_weekday 19_734 ≡ true
friday = refl

saturday : is_weekday 19_735 ≡ false
saturday = refl

-- 06:29:59 and 06:30:00, 09:29:59 and 09:30:00
before_the_morning : is_morning 23_399 ≡ false
before_the_morning = refl

first_of_the_morning : is_morning 23_400 ≡ true
first_of_the_morning = refl

last_of_the_morning : is_morning 34_199 ≡ true
last_of_the_morning = refl

after_the_morning : is_morning 34_200 ≡ false
after_the_morning = refl

-- 15:59:59 and 16:00:00, 18:59:59 and 19:00:00
before_the_evening : is_evening 57_599 ≡ false
before_the_evening = refl

first_of_the_evening : is_evening 57_600 ≡ true
first_of_the_evening = refl

last_of_the_evening : is_evening 68_399 ≡ true
last_of_the_evening = refl

after_the_evening : is_evening 68_400 ≡ false
after_the_evening = refl
