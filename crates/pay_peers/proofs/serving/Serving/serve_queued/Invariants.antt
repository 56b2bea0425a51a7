use Rattle.std.proofs.Common.{◌≡◌}
use Rattle.pay_session.specs.Words.{HasAnsweredAt}
use Rattle.pay_peers.proofs.serving.Serving.serve_queued.Given as goal

abbrev pub invariant-loop : goal.invariant-loop
invariant-loop g l =
    HasAnsweredAt g.D.Desk.parts g.T.Till.Closes (l.port.zone.now, l.port.role) (l.initial.desk, l.initial.till) (l.desk, l.till)
    × (g.T.Till.origin l.till ≡ g.T.Till.origin l.initial.till)
