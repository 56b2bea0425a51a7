use Rattle.pay_nats.proofs.Requested.{requests_apart}
use Rattle.pay_nats.proofs.laws.one_request.Goals as goal

pub returns : goal.returns
returns c = requests_apart
