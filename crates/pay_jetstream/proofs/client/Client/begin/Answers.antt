use Rattle.std.proofs.Common.{◌≡◌, refl, sym, subst}
use Rattle.pay_jetstream.specs.Asks.{Asks, greeting}
use Rattle.pay_jetstream.proofs.Asking.{asks_pong, greets}
use Rattle.pay_jetstream.proofs.client.Client.begin.Goals.{in-Ping+in_ok-write-in-Ping, in-Other}
use Rattle.pay_jetstream.proofs.client.Client.begin.Goals as goal

pub loop-init : goal.loop-init
loop-init g c = record {
  inbox = refl;
  written = greets c.args.self.now.inbox.items c.deref.result.now (g.W.Write.contents c.args.self.now.writer) (g.W.Write.contents c.write.new.writer) (g.W.Write.contents c.write-2.new.writer) (g.W.Write.contents c.write-3.new.writer)
      c.deref.ensures.value c.in_ok-write.ensures c.in_ok-write-2.ensures c.in_ok-write-3.ensures;
}

pub loop-preserved : goal.loop-preserved
loop-preserved g c =
    let contents = g.W.Write.contents in
    let now = c.args.self.now in
    elim c.match-heard_of_pong.branch [
      | in-Ping+in_ok-write-in-Ping w ↦ subst (λ s. record { inbox : s.inbox ≡ now.inbox; written : Asks (greeting now.inbox.items) (contents now.writer) (contents s.writer) }) (sym w.self-is)
          (record { inbox = c.loop.invariant.inbox; written = asks_pong (greeting now.inbox.items) _ _ _ c.loop.invariant.written w.in_ok-write-in-Ping.ensures })
      | in-Other w ↦ subst (λ s. record { inbox : s.inbox ≡ now.inbox; written : Asks (greeting now.inbox.items) (contents now.writer) (contents s.writer) }) (sym w.self-is)
          (record { inbox = c.loop.invariant.inbox; written = c.loop.invariant.written })
    ]
