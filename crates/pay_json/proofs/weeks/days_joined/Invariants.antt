use Rattle.std.proofs.Common.{◌≡◌, drop, map}
use Rattle.std.specs.List.{zip}
use Rattle.std.specs.String.{string_bytes}
use Rattle.pay_dates.specs.declared.dated.DatedDay.{DatedDay}
use Rattle.pay_json.specs.Values.{all_joined}
use Rattle.pay_json.specs.Weeks.{priced_day, days_joined}
use Rattle.pay_json.proofs.weeks.days_joined.Given as goal

abbrev pub invariant-loop-place : goal.invariant-loop-place
invariant-loop-place l =
    all_joined priced_day (string_bytes l.text) (zip (map (λ (it : DatedDay). it.day) (drop l.place l.days)) (drop l.place l.priced)) ≡ days_joined (map (λ (it : DatedDay). it.day) l.days) l.priced
