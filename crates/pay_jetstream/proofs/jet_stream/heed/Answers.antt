use Rattle.std.proofs.Common.{subst}
use Rattle.std.specs.Io.KnownBytes.{Appends}
use Rattle.pay_nats.specs.Requests.{Publish, request_bytes}
use Rattle.pay_jetstream.proofs.Asking.{answers_go_on, answers_pong}
use Rattle.pay_jetstream.proofs.jet_stream.heed.Goals as goal

pub returns-in_ok-write-in-Waits-clause-written : goal.returns-in_ok-write-in-Waits-clause-written
returns-in_ok-write-in-Waits-clause-written g c = answers_go_on c.in-Waits.subject.now _ _
    (subst (λ it. Appends (g.W.Write.contents c.args.writer.now) (g.W.Write.contents c.write.new.writer) (request_bytes (Publish it))) c.under.ensures c.in_ok-write-in-Waits.ensures)

pub returns-in_ok-write-in-Ping-clause-written : goal.returns-in_ok-write-in-Ping-clause-written
returns-in_ok-write-in-Ping-clause-written g c = answers_pong _ _ c.in_ok-write-in-Ping.ensures
