-- Worked rows of the service day, by the offset that the zone has at the instant.
use Rattle.std.proofs.Common.{◌≡◌, ℕ, ℤ, pos, neg_ℤ, ◌+ℤ◌, ap, refl}
use Rattle.jiff.specs.Words.{offset_at, plain_zone, nanos_of_seconds}
use Rattle.jiff.specs.declared.tz.timezone.TimeZone.{TimeZone}
use Rattle.pay_day.specs.Day.{stamp_of, local_seconds, local_second, local_date, service_day}

-- the zone is so many seconds ahead of UTC at the instant
abbrev IsAhead : TimeZone → ℕ → ℤ → Type 0
IsAhead zone utc seconds = offset_at (plain_zone zone) (nanos_of_seconds (pos utc)) ≡ seconds

clock : (zone : TimeZone) (utc : ℕ) (seconds : ℤ) → IsAhead zone utc seconds → local_seconds zone utc ≡ pos utc +ℤ seconds
unfolding local_seconds
clock zone utc seconds e = ap (λ s. pos utc +ℤ s) e

-- the first instant: Thursday 1970-01-08 00:00:00, of Wednesday's service day
first_instant : (zone : TimeZone) → IsAhead zone 604_800 (pos 0) → stamp_of zone 604_800 ≡ record { utc = 604_800; day = 6; second = 0 }
unfolding service_day local_date local_second
first_instant zone e = rw (clock zone 604_800 (pos 0) e) refl

-- the last instant: Thursday 2099-12-31 23:59:59
last_instant : (zone : TimeZone) → IsAhead zone 4_102_444_799 (pos 0) → stamp_of zone 4_102_444_799 ≡ record { utc = 4_102_444_799; day = 47_481; second = 86_399 }
unfolding service_day local_date local_second
last_instant zone e = rw (clock zone 4_102_444_799 (pos 0) e) refl

-- Monday 2024-01-08 04:29:59 is of Sunday's service day
before_service : (zone : TimeZone) → IsAhead zone 1_704_688_199 (pos 0) → stamp_of zone 1_704_688_199 ≡ record { utc = 1_704_688_199; day = 19_729; second = 16_199 }
unfolding service_day local_date local_second
before_service zone e = rw (clock zone 1_704_688_199 (pos 0) e) refl

-- Monday 2024-01-08 04:45:00
after_service_began : (zone : TimeZone) → IsAhead zone 1_704_689_100 (pos 0) → stamp_of zone 1_704_689_100 ≡ record { utc = 1_704_689_100; day = 19_730; second = 17_100 }
unfolding service_day local_date local_second
after_service_began zone e = rw (clock zone 1_704_689_100 (pos 0) e) refl

-- in summer time 04:30 is 03:30 by UTC: Sunday 2024-03-31 04:29:59 and 04:30:00
before_service_in_summer : (zone : TimeZone) → IsAhead zone 1_711_855_799 (pos 3_600) → stamp_of zone 1_711_855_799 ≡ record { utc = 1_711_855_799; day = 19_812; second = 16_199 }
unfolding service_day local_date local_second
before_service_in_summer zone e = rw (clock zone 1_711_855_799 (pos 3_600) e) refl

service_begins_in_summer : (zone : TimeZone) → IsAhead zone 1_711_855_800 (pos 3_600) → stamp_of zone 1_711_855_800 ≡ record { utc = 1_711_855_800; day = 19_813; second = 16_200 }
unfolding service_day local_date local_second
service_begins_in_summer zone e = rw (clock zone 1_711_855_800 (pos 3_600) e) refl

-- far in the west the first instant is on Tuesday 1970-01-06 at 23:00:01
first_instant_far_west : (zone : TimeZone) → IsAhead zone 604_800 (neg_ℤ (pos 89_999)) → stamp_of zone 604_800 ≡ record { utc = 604_800; day = 5; second = 82_801 }
unfolding service_day local_date local_second
first_instant_far_west zone e = rw (clock zone 604_800 (neg_ℤ (pos 89_999)) e) refl

-- far in the east the last instant is on Saturday 2100-01-02 at 00:59:58, of Friday's service day
last_instant_far_east : (zone : TimeZone) → IsAhead zone 4_102_444_799 (pos 89_999) → stamp_of zone 4_102_444_799 ≡ record { utc = 4_102_444_799; day = 47_482; second = 3_598 }
unfolding service_day local_date local_second
last_instant_far_east zone e = rw (clock zone 4_102_444_799 (pos 89_999) e) refl
