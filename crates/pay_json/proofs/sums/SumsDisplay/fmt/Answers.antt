use Rattle.json.specs.Print.{escape_byte}
use Rattle.pay_json.specs.Sums.{sums_value}
use Rattle.pay_json.proofs.sums.SumsDisplay.fmt.Goals as goal

pub returns-clause-writes : goal.returns-clause-writes
unfolding sums_value escape_byte
returns-clause-writes g c = rw (c.pence-uncapped.ensures, c.pence-maximum.ensures, c.pence-price.ensures) at c.write.ensures.writes
