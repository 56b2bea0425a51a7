use Rattle.json.specs.Print.{escape_byte}
use Rattle.pay_json.specs.Weeks.{priced_members}
use Rattle.pay_json.proofs.weeks.PricedObjectDisplay.fmt.Goals as goal

pub returns-clause-writes : goal.returns-clause-writes
unfolding priced_members escape_byte
returns-clause-writes g c = rw c.pence-price.ensures at c.write.ensures.writes
