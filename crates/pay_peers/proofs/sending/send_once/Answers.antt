use Rattle.pay_peers.proofs.Sent.{some_sent}
use Rattle.pay_peers.proofs.sending.send_once.Goals as goal

pub returns-in-Ok-clause-sent : goal.returns-in-Ok-clause-sent
returns-in-Ok-clause-sent g c = some_sent _ _ c.args.unsent.now _ c.args.sent.now c.in-Ok.count c.split_at.ensures.back c.in-Ok.ensures.bytes
