use Rattle.std.proofs.Common.{◌≡◌, []}
use Rattle.pay_jetstream.specs.Asks.{Asks}
use Rattle.pay_jetstream.specs.Taken.{HasTakenFrames}
use Rattle.pay_jetstream.proofs.client.Client.await_answer.Given as goal

-- whole frames were taken, and nothing was written but `PONG`
abbrev pub invariant-loop : goal.invariant-loop
invariant-loop g l = record { taken : HasTakenFrames (g.R.Read.remaining l.fn.self.reader) (g.R.Read.remaining l.self.reader); inbox : l.self.inbox ≡ l.fn.self.inbox; written : Asks [] (g.W.Write.contents l.fn.self.writer) (g.W.Write.contents l.self.writer) }
