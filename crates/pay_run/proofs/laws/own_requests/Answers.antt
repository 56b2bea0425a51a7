use Rattle.pay_run.proofs.OwnRequests.{own_alone}
use Rattle.pay_run.proofs.laws.own_requests.Goals as goal

pub returns : goal.returns
returns c = own_alone
