use Rattle.pay_replica.proofs.Told.{told}
use Rattle.pay_replica.proofs.laws.descriptions_tell.Goals as goal

pub returns : goal.returns
returns = λ g. told
