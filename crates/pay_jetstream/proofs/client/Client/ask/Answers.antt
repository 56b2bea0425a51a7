use Rattle.pay_jetstream.proofs.Asking.{asks_question}
use Rattle.pay_nats.specs.Requests.{published}
use Rattle.pay_jetstream.proofs.client.Client.ask.Goals as goal

pub returns-clause-written : goal.returns-clause-written
returns-clause-written g c = asks_question c.await_answer.result c.args.self.now.inbox.items c.deref.result.now c.args.subject.now c.args.payload.now (published c.asking.result)
    (g.W.Write.contents c.args.self.now.writer) (g.W.Write.contents c.write.new.writer) (g.W.Write.contents c.await_answer.new.self.writer)
    c.deref.ensures.value c.asking.ensures c.in_ok-write.ensures c.await_answer.ensures.written
