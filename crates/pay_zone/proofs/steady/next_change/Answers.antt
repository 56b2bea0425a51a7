use Rattle.std.proofs.Common.{arith, ◌≡◌, pos, to_z, w64, ap, sym, ◌∙◌, Some}
use Rattle.std.specs.Prelude.{int_div}
use Rattle.std.proofs.lemmas.Int.{to_z_pos}
use Rattle.jiff.specs.Transitions.{Search}
use Rattle.jiff.specs.Words.{nanos_of_seconds, plain_zone, plain_transition, next_at, offset_at}
use Rattle.jiff_core.specs.declared.Timestamp.{Timestamp}
use Rattle.jiff_tz.specs.declared.timezone.TimeZone.{TimeZone}
use Rattle.pay_zone.proofs.Kept.{kept_by_rule, second_of}
use Rattle.pay_zone.proofs.steady.next_change.Goals as goal

pub returns-in-Ok-try_from : goal.returns-in-Ok-try_from
returns-in-Ok-try_from c = λ utc h k year.
    let from : to_z w64 c.args.from ≡ pos c.args.from = to_z_pos w64 c.args.from (omega arith) in
    let instant : c.in-Ok.instant.nanosecond ≡ nanos_of_seconds (pos c.args.from) = c.in-Ok.ensures.value ∙ ap nanos_of_seconds from in
    let rule = c.in-Posix.ensures in
    let its = plain_transition c.in_ok-change.change in
    let left : c.following.result.left ≡ 9_223_372_036_854_775_807 = ap (λ (s : Search). s.left) c.following.ensures in
    let found : Some (its.timestamp.nanosecond, its.info) ≡ next_at (plain_zone c.args.zone.now) c.in-Ok.instant.nanosecond =
    c.in_ok-change.ensures.steps.found (omega arith) ∙ ap (λ (s : Search). next_at s.zone s.at) c.following.ensures in
    let of_change : c.as_second.result ≡ int_div its.timestamp.nanosecond (pos 1_000_000_000) =
    c.as_second.ensures ∙ ap (λ (t : Timestamp). int_div t.nanosecond (pos 1_000_000_000)) c.timestamp.ensures in
    let second = second_of c.in-Ok-try_from.second c.as_second.result its.timestamp.nanosecond its.timestamp.in_range of_change c.in-Ok-try_from.ensures.0 c.in-Ok-try_from.ensures.1 in
    let at : pos c.in-Ok-try_from.second ≡ int_div its.timestamp.nanosecond (pos 1_000_000_000) =
    second ∙ of_change in
    let kept = kept_by_rule c.in-Posix.field-0 c.args.from c.in-Ok-try_from.second utc its.timestamp.nanosecond its.info
    (ap (λ (z : TimeZone). next_at z (nanos_of_seconds (pos c.args.from))) rule ∙ sym (ap (next_at (plain_zone c.args.zone.now)) instant) ∙ sym found) at h k year in
    sym (ap (λ (z : TimeZone). offset_at z (nanos_of_seconds (pos utc))) rule) ∙ kept ∙ ap (λ (z : TimeZone). offset_at z (nanos_of_seconds (pos c.args.from))) rule
