use Rattle.pay_serve.proofs.Runs.{kept_are_new}
use Rattle.pay_serve.proofs.laws.kept_are_new.Goals as goal

pub returns : goal.returns
returns c = kept_are_new
