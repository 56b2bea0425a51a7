use Rattle.pay_json.specs.Weeks.{week_parts}
use Rattle.pay_json.proofs.weeks.WeekPartsDisplay.fmt.Goals as goal

pub returns-clause-writes : goal.returns-clause-writes
unfolding week_parts
returns-clause-writes g c = rw (c.pence-credited.ensures, c.pence-due.ensures) at c.write.ensures.writes
