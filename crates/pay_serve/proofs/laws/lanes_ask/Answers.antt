use Rattle.pay_serve.proofs.LinesAsked.{at_over}
use Rattle.pay_serve.proofs.laws.lanes_ask.Goals as goal

pub returns : goal.returns
returns c = λ zone role lane after began now is same more none. at_over lane after began now is same zone role more none
