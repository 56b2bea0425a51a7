-- What the zone's clock shows by jiff's words is the local date and the local second.
use Rattle.std.proofs.Common.{arith, ◌≡◌, ℕ, ◌+◌, ◌*◌, ◌<◌, ℤ, pos, ◌+ℤ◌, ◌*ℤ◌, unsigned_abs, ap}
use Rattle.std.specs.Int.{int_div_euclid, int_rem_euclid}
use Rattle.jiff.proofs.SpanFacts.{signed_arith}
use Rattle.jiff.specs.Words.{nanos_of_seconds, offset_at, plain_zone}
use Rattle.jiff.specs.declared.tz.timezone.TimeZone.{TimeZone}
use Rattle.pay_day.specs.Day.{local_seconds}

-- that many whole days and seconds
pub date_of : (day seconds : ℤ) (second subsec : ℕ) → day *ℤ pos 86_400_000_000_000 +ℤ pos (second * 1_000_000_000 + subsec) ≡ nanos_of_seconds seconds
    → second < 86_400 → subsec < 1_000_000_000 → day ≡ int_div_euclid seconds (pos 86_400)
date_of day seconds second subsec e h k = omega (arith, signed_arith)

-- and the seconds of the last of them
pub second_of : (day seconds : ℤ) (second subsec : ℕ) → day *ℤ pos 86_400_000_000_000 +ℤ pos (second * 1_000_000_000 + subsec) ≡ nanos_of_seconds seconds
    → second < 86_400 → subsec < 1_000_000_000 → second ≡ unsigned_abs (int_rem_euclid seconds (pos 86_400))
second_of day seconds second subsec e h k = omega (arith, signed_arith)

-- jiff's count of nanoseconds on the zone's clock
pub nanos_shown : (zone : TimeZone) (utc : ℕ) (instant total : ℤ) → instant ≡ nanos_of_seconds (pos utc)
    → total ≡ instant +ℤ nanos_of_seconds (offset_at (plain_zone zone) instant) → total ≡ nanos_of_seconds (local_seconds zone utc)
unfolding local_seconds
nanos_shown zone utc instant total e shows =
    let offset : offset_at (plain_zone zone) instant ≡ offset_at (plain_zone zone) (nanos_of_seconds (pos utc)) =
    ap (offset_at (plain_zone zone)) e in
    omega (arith, signed_arith)
