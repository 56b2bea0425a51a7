use Rattle.std.proofs.Common.{arith, ◌≡◌, ℕ, ◌+◌, ◌*◌, pos, ◌+ℤ◌, ◌*ℤ◌, to_z, w64, ap, ◌∙◌, sym}
use Rattle.std.proofs.lemmas.Int.{to_z_pos}
use Rattle.jiff.proofs.Family.{civil_nanos-parts}
use Rattle.jiff.specs.Words.{epoch_day, nanos_of_seconds}
use Rattle.pay_day.specs.Day.{local_seconds, local_date, local_second}
use Rattle.pay_day.proofs.Clock.{date_of, second_of, nanos_shown}
use Rattle.pay_day.proofs.laws.shown.Goals as goal

-- the seconds since midnight that the clock shows
abbrev second_shown : goal.After-to_datetime → ℕ
second_shown c = c.to_datetime.result.time.hour * 3_600 + c.to_datetime.result.time.minute * 60 + c.to_datetime.result.time.second

-- the days and the seconds that the clock shows are the local seconds
total : (c : goal.After-to_datetime)
    → epoch_day c.to_datetime.result.date *ℤ pos 86_400_000_000_000 +ℤ pos (second_shown c * 1_000_000_000 + c.to_datetime.result.time.subsec_nanosecond)
    ≡ nanos_of_seconds (local_seconds c.args.zone.now c.args.utc)
total c =
    let utc : to_z w64 c.args.utc ≡ pos c.args.utc = to_z_pos w64 c.args.utc (omega arith) in
    let instant : c.in-Ok.instant.nanosecond ≡ nanos_of_seconds (pos c.args.utc) =
    c.in-Ok.ensures.value ∙ ap nanos_of_seconds utc in
    sym (civil_nanos-parts c.to_datetime.result)
    ∙ nanos_shown c.args.zone.now c.args.utc _ _ instant c.to_datetime.ensures

pub returns-clause-date : goal.returns-clause-date
unfolding local_date
returns-clause-date c = date_of (epoch_day c.to_datetime.result.date) _ (second_shown c) c.to_datetime.result.time.subsec_nanosecond (total c) (omega arith) (omega arith)

pub returns-clause-time : goal.returns-clause-time
unfolding local_second
returns-clause-time c = second_of (epoch_day c.to_datetime.result.date) _ (second_shown c) c.to_datetime.result.time.subsec_nanosecond (total c) (omega arith) (omega arith)
