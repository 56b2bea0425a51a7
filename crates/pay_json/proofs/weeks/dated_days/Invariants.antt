use Rattle.std.proofs.Common.{◌≡◌, map}
use Rattle.std.specs.List.{range_with_len}
use Rattle.pay_dates.specs.declared.dated.DatedDay.{DatedDay}
use Rattle.pay_json.proofs.weeks.dated_days.Given as goal

abbrev pub invariant-loop-place : goal.invariant-loop-place
invariant-loop-place l = map (λ (it : DatedDay). it.day) l.list.items ≡ map (λ day. day) (range_with_len l.from l.place)
