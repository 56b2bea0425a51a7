use Rattle.pay_compare.proofs.Differing.{none_agree}
use Rattle.pay_compare.proofs.laws.difference.Goals as goal

pub returns : goal.returns
returns c = none_agree
