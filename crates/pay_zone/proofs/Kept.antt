-- A zone by a rule keeps its offset within a year until the second of its next change.
use Rattle.std.proofs.Common.{◌≡◌, ℕ, ℤ, pos, negsuc, neg_ℤ, nat_abs, to_z, of_z, w64, refl, ◌≤◌, ◌<◌, ◌≤ℤ◌, ◌<ℤ◌, Some, arith, ap, ◌∙◌, subst}
use Rattle.std.specs.Prelude.{int_div}
use Rattle.std.specs.Int.{FitsUnsignedBits}
use Rattle.jiff_core.specs.Timestamp.{IsTimestampNanos}
use Rattle.jiff_core.proofs.SignedLemmas.{signed_arith}
use Rattle.jiff.specs.Words.{nanos_of_seconds}
use Rattle.jiff_core.specs.declared.Offset.{Offset}
use Rattle.jiff_tz.specs.Zone as Zones
use Rattle.jiff_tz.specs.declared.info.OffsetInfo.{OffsetInfo}
use Rattle.jiff_tz.specs.declared.posix.TimeZone.{TimeZone}
use Rattle.jiff_tz.specs.declared.timezone.TimeZone.TheVariants.{Posix}
use Rattle.pay_zone.specs.Steady.{year_at}
use Rattle.pay_zone.proofs.Windows.{keeps}

not_after : (from utc : ℕ) → from ≤ utc → nanos_of_seconds (pos from) ≤ℤ nanos_of_seconds (pos utc)
not_after from utc h = omega (arith, signed_arith)

before : (utc t : ℕ) (at : ℤ) → pos t ≡ int_div at (pos 1_000_000_000) → utc < t → nanos_of_seconds (pos utc) <ℤ at
before utc t at e h = omega (arith, signed_arith)

pub kept_by_rule : (rule : TimeZone) (from t utc : ℕ) (at : ℤ) (info : OffsetInfo) → Zones.next_at (Posix rule) (nanos_of_seconds (pos from)) ≡ Some (at, info)
    → pos t ≡ int_div at (pos 1_000_000_000) → from ≤ utc → utc < t → year_at utc ≡ year_at from
    → Zones.offset_at (Posix rule) (nanos_of_seconds (pos utc)) ≡ Zones.offset_at (Posix rule) (nanos_of_seconds (pos from))
unfolding Zones.next_at Zones.offset_at
kept_by_rule rule from t utc at info found e h k year =
    ap (λ (o : Offset). o.seconds) (keeps rule (nanos_of_seconds (pos from)) (nanos_of_seconds (pos utc)) at info (not_after from utc h) (before utc t at e k) year found)

size_of : (z : ℤ) → FitsUnsignedBits 64 z → pos (nat_abs z) ≡ z
size_of (pos n) h = refl
size_of (negsuc n) h = absurd h

-- the second of an instant that is not before 1970, as a number without a sign
pub second_of : (second : ℕ) (q at : ℤ) → IsTimestampNanos at → q ≡ int_div at (pos 1_000_000_000) → FitsUnsignedBits 64 (to_z w64 (of_z w64 q))
    → second ≡ nat_abs (to_z w64 (of_z w64 q)) → pos second ≡ q
second_of second q at range e fits is =
    let low = range.0 in
    let high = range.1 in
    let above : neg_ℤ (pos 377_705_023_202) ≤ℤ q = omega (arith, signed_arith) in
    let below : q ≤ℤ pos 253_402_207_201 = omega (arith, signed_arith) in
    let back : to_z w64 (of_z w64 q) ≡ q = omega (arith, signed_arith) in
    let fit = subst (λ z. FitsUnsignedBits 64 z) back fits in
    ap pos is ∙ ap (λ z. pos (nat_abs z)) back ∙ size_of q fit
