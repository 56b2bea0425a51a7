use Rattle.std.proofs.Common.{drop}
use Rattle.pay_peers.specs.Sending.{IsSent}
use Rattle.pay_peers.proofs.sending.send.Given as goal

abbrev pub invariant-loop : goal.invariant-loop
invariant-loop g l = let W = g.W.Write in IsSent (W.contents l.initial.stream) (W.contents l.stream) (drop l.initial.sent l.initial.unsent.items) (drop l.sent l.unsent.items)
