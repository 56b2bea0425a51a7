use Rattle.pay_settle.proofs.Paid.{paid_add_up}
use Rattle.pay_settle.proofs.Together.{sums_are_net}
use Rattle.pay_settle.proofs.laws.as_posted.Goals as goal

pub returns-clause-net : goal.returns-clause-net
returns-clause-net c = sums_are_net

pub returns-clause-paid : goal.returns-clause-paid
returns-clause-paid c = paid_add_up
