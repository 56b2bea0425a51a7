use Rattle.pay_account_lines.proofs.OwnAlone.{own_enough}
use Rattle.pay_account_lines.proofs.laws.own_are_enough.Goals as goal

pub returns : goal.returns
returns c = own_enough c.own_requests.ensures
