use Rattle.std.proofs.Common.{◌≡◌, [], refl, sym, subst}
use Rattle.pay_jetstream.specs.Answered.{IsHeard}
use Rattle.pay_jetstream.specs.Asks.{Asks}
use Rattle.pay_jetstream.specs.Taken.{HasTakenFrames}
use Rattle.pay_jetstream.proofs.Asking.{asks_none, asks_pong}
use Rattle.pay_jetstream.proofs.Taking.{answered, took_frame, took_none}
use Rattle.pay_jetstream.proofs.client.Client.await_answer.Goals.{in-Ping+in_ok-write-in-Ping, in-Other}
use Rattle.pay_jetstream.proofs.client.Client.await_answer.Goals as goal

pub loop-init : goal.loop-init
loop-init g c = record { taken = took_none _; inbox = refl; written = asks_none _ }

pub loop-preserved : goal.loop-preserved
loop-preserved g c =
    let contents = g.W.Write.contents in
    let remaining = g.R.Read.remaining in
    let now = c.args.self.now in
    let taken = took_frame _ _ (remaining c.read_whole.new.reader) c.read_whole.new.held.items c.loop.invariant.taken c.in_ok-read_whole.ensures.taken c.in_ok-read_whole.ensures.whole in
    elim c.match-heard_of_answer.branch [
      | in-Ping+in_ok-write-in-Ping w ↦ subst (λ s. record { taken : HasTakenFrames (remaining now.reader) (remaining s.reader); inbox : s.inbox ≡ now.inbox; written : Asks [] (contents now.writer) (contents s.writer) }) (sym w.self-is)
          (record { taken = taken; inbox = c.loop.invariant.inbox; written = asks_pong [] _ _ _ c.loop.invariant.written w.in_ok-write-in-Ping.ensures })
      | in-Other w ↦ subst (λ s. record { taken : HasTakenFrames (remaining now.reader) (remaining s.reader); inbox : s.inbox ≡ now.inbox; written : Asks [] (contents now.writer) (contents s.writer) }) (sym w.self-is)
          (record { taken = taken; inbox = c.loop.invariant.inbox; written = c.loop.invariant.written })
    ]

pub returns-in-Awaited-clause-answer : goal.returns-in-Awaited-clause-answer
returns-in-Awaited-clause-answer g c =
    let heard : IsHeard c.read_whole.new.held.items c.heard_of_answer.result = subst (λ l. IsHeard l c.heard_of_answer.result) c.deref.ensures.value c.heard_of_answer.ensures in
    answered c.replace.result _ _ (g.R.Read.remaining c.read_whole.new.reader) c.read_whole.new.held.items c.in-Awaited.payload.now c.replace.new.held.items
    c.loop.invariant.taken c.in_ok-read_whole.ensures.taken (subst (IsHeard c.read_whole.new.held.items) c.in-Awaited.is heard) c.replace.ensures
