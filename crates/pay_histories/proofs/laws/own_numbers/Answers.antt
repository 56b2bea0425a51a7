use Rattle.pay_histories.proofs.Histories.{own_numbers}
use Rattle.pay_histories.proofs.laws.own_numbers.Goals as goal

pub returns : goal.returns
returns c editions items = own_numbers editions items
