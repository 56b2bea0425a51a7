use Rattle.pay_peers.proofs.Opened.{open_answered}
use Rattle.pay_peers.proofs.serving.Serving.obey.Goals as goal

pub returns-in_ok-peer-in-All-Open-clause-served : goal.returns-in_ok-peer-in-All-Open-clause-served
returns-in_ok-peer-in-All-Open-clause-served g c =
    let e = c.count_open.ensures in
    open_answered g.D.Desk.parts g.T.Till.Closes g.T.Till.Opens c.close_is_answered.ensures c.args.port.zone.now c.args.port.role c.requires c.number.result e.opened.0
    c.args.desk.now c.count_open.new.desk c.args.till.now c.count_open.new.till e.opened.1 e.transcript e.same_desk
