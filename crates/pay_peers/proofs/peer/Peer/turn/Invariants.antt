use Rattle.std.proofs.Common.{◌≡◌, true, false, None}
use Rattle.std.specs.Option.{is_some}
use Rattle.pay_session.specs.Words.{HasAnsweredAt}
use Rattle.pay_peers.specs.Lines.{Hears}
use Rattle.pay_peers.proofs.peer.Peer.turn.Given as goal

abbrev pub invariant-loop : goal.invariant-loop
invariant-loop g l =
    HasAnsweredAt g.D.Desk.parts g.T.Till.Closes (l.port.zone.now, l.port.role) (l.initial.desk, l.initial.till) (l.desk, l.till)
    × (g.T.Till.origin l.till ≡ g.T.Till.origin l.initial.till)
    × (l.self.over ≡ false → l.initial.self.over ≡ false)
    × (l.self.over ≡ false → Hears l.port.role None
    (l.initial.self.awaited, l.initial.self.begun, l.initial.self.pending.items) (l.self.awaited, l.self.begun, l.self.pending.items))
    × (is_some l.self.awaited ≡ true → (l.self.awaited ≡ l.initial.self.awaited) × (l.desk ≡ l.initial.desk) × (l.till ≡ l.initial.till))
