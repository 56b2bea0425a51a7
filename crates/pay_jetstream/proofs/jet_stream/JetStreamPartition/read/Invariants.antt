use Rattle.std.proofs.Common.{◌≡◌}
use Rattle.pay_jetstream.specs.Asks.{Answers}
use Rattle.pay_jetstream.specs.StreamParts.{IsSameStream}
use Rattle.pay_jetstream.proofs.jet_stream.JetStreamPartition.read.Given as goal

-- no line was given so far
abbrev pub invariant-loop : goal.invariant-loop
invariant-loop g l = record { same : IsSameStream l.initial.self l.self; none : l.self.last ≡ l.initial.self.last; written : Answers l.initial.self.written l.self.written }
