use Rattle.pay_session.proofs.OneRequest.{answered_in}
use Rattle.pay_session.proofs.service.answer_by.Goals as goal

pub returns-clause-answered : goal.returns-clause-answered
returns-clause-answered g c =
    let e = c.answer.ensures in
    answered_in g.D.Desk.parts g.T.Till.Closes c.args.service.now.port.zone.now c.args.service.now.port c.args.request _ _ e.event c.answer.result c.requires.open e.serves.0 e.told
