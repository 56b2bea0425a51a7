use Rattle.std.proofs.Common.{◌≡◌}
use Rattle.pay_jetstream.specs.Asks.{Asks, greeting}
use Rattle.pay_jetstream.proofs.client.Client.begin.Given as goal

-- the greeting was written
abbrev pub invariant-loop : goal.invariant-loop
invariant-loop g l = record { inbox : l.self.inbox ≡ l.fn.self.inbox; written : Asks (greeting l.fn.self.inbox.items) (g.W.Write.contents l.fn.self.writer) (g.W.Write.contents l.self.writer) }
