use Rattle.pay_week.proofs.WeekSums.{empty_day_free, nothing_free}
use Rattle.pay_week.proofs.laws.empty_days.Goals as goal

pub returns : goal.returns
returns c = record { free = empty_day_free c.charges.ensures.by_all c.charges.ensures.same; nothing = nothing_free c.charges.ensures.by_all }
