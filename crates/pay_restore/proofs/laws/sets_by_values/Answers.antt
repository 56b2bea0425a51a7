use Rattle.pay_restore.proofs.Values.{set_of_values}
use Rattle.pay_restore.proofs.laws.sets_by_values.Goals as goal

pub returns : goal.returns
returns g c = set_of_values g.T.Numbered.number
