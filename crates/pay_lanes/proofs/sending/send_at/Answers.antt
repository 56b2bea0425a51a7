use Rattle.std.proofs.lemmas.Result.{on_ok_weaker, on_err_weaker}
use Rattle.pay_lanes.proofs.Sent.{is_there, is_sent}
use Rattle.pay_lanes.proofs.sending.send_at.Goals as goal

pub returns-clause-sent : goal.returns-clause-sent
returns-clause-sent g c = on_ok_weaker c.send.result (is_sent c.args.ends.now.items c.args.place c.args.item c.index_mut.result.now c.send.new.self c.requires.place c.index_mut.ensures.value) c.send.ensures.sent

pub returns-clause-full : goal.returns-clause-full
returns-clause-full g c = on_err_weaker c.send.result (λ full. (c.index_mut.result.now, is_there c.args.ends.now.items c.args.place c.index_mut.result.now c.requires.place c.index_mut.ensures.value, full)) c.send.ensures.full
