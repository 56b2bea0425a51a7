use Rattle.pay_account.proofs.WeekCells.{days_of_week, monday_of_sunday}
use Rattle.pay_account.proofs.laws.week_days.Goals as goal

pub returns-clause-days : goal.returns-clause-days
returns-clause-days c = days_of_week

pub returns-clause-monday : goal.returns-clause-monday
returns-clause-monday c = monday_of_sunday
