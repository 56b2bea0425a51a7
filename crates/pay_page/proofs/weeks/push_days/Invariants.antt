use Rattle.std.proofs.Common.{◌≡◌, ◌++◌, drop, map}
use Rattle.pay_dates.specs.declared.dated.DatedDay.{DatedDay}
use Rattle.std.specs.String.{string_bytes}
use Rattle.pay_page.specs.WeekPages.{day_rows}
use Rattle.pay_page.proofs.weeks.push_days.Given as goal

abbrev pub invariant-loop-place : goal.invariant-loop-place
invariant-loop-place l =
    string_bytes l.text ++ day_rows l.account (map (λ (it : DatedDay). it.day) (drop l.place l.days)) (drop l.place l.priced) ≡ string_bytes l.fn.text ++ day_rows l.account (map (λ (it : DatedDay). it.day) l.days) l.priced
