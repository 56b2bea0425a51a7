use Rattle.pay_session.proofs.AtPorts.{answers_close}
use Rattle.pay_session.proofs.laws.close_is_answered.Goals as goal

pub returns : goal.returns
returns g c = answers_close g.D.Desk.parts g.T.Till.Closes
