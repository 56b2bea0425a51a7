use Rattle.pay_dates.proofs.ServiceDays.{day_is_day, day_no_hyphen}
use Rattle.pay_dates.proofs.laws.named_days.Goals as goal

pub returns-clause-service : goal.returns-clause-service
returns-clause-service g = day_is_day

pub returns-clause-hyphen : goal.returns-clause-hyphen
returns-clause-hyphen g = day_no_hyphen
