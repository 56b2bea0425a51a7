use Rattle.pay_why.proofs.LastOnes.{reasons_give_fares}
use Rattle.pay_why.proofs.laws.boarding_fares.Goals as goal

pub returns : goal.returns
returns c = reasons_give_fares c.boarding_reasons.ensures.paying
