use Rattle.std.proofs.Common.{rules, ◌≡◌, suc, ◌∙◌}
use Rattle.std.specs.Prelude.{string_bytes}
use Rattle.pay_jetstream.proofs.Asking.{opens}
use Rattle.pay_jetstream.proofs.opening.open_partition.Goals as goal

pub returns-clause-written : goal.returns-clause-written
returns-clause-written g c =
    let contents = g.W.Write.contents in
    let inbox_is : c.stream_at.new.client.inbox.items ≡ c.args.client.inbox.items = search rules in
    let end_is : c.new.result.written ≡ contents c.write.new.writer = search rules in
    let next_is : c.in-Some.next ≡ suc c.args.last = search rules in
    let text_is : c.as_bytes.result.now ≡ string_bytes c.in-Ok.text = search rules in
    let lines_is : c.as_bytes-2.result.now ≡ c.args.plan.now.deliver.now = search rules in
    opens c.args.client.inbox.items c.stream_at.new.client.inbox.items c.deref.result.now c.as_bytes.result.now c.args.plan.now.stream.now c.args.plan.now.deliver.now c.as_bytes-2.result.now c.args.last c.in-Some.next
    (contents c.args.client.writer) (contents c.stream_at.new.client.writer) (contents c.ask.new.self.writer) (contents c.write.new.writer) c.new.result.written
    c.in_ok-stream.ensures.written inbox_is (c.deref.ensures.value ∙ c.in_ok-subject.ensures) (text_is ∙ c.in-Ok.ensures.text) next_is
    c.in_ok-ask.ensures.written lines_is c.in_ok-write.ensures end_is
