use Rattle.std.proofs.Common.{◌≡◌, [], length, false, None}
use Rattle.pay_session.specs.Words.{HasAnsweredAt}
use Rattle.pay_peers.specs.Lines.{IsTaken}
use Rattle.pay_peers.proofs.peer.Peer.take_lines.Given as goal

abbrev pub invariant-lines : goal.invariant-lines
invariant-lines g l =
    HasAnsweredAt g.D.Desk.parts g.T.Till.Closes (l.port.zone.now, l.port.role) (l.initial.desk, l.initial.till) (l.desk, l.till)
    × (g.T.Till.origin l.till ≡ g.T.Till.origin l.initial.till)
    × (l.self.pending.items ≡ [])
    × IsTaken l.port.role l.initial.self.begun l.initial.rest None l.self.begun l.rest
    × (l.self.over ≡ false → l.initial.self.over ≡ false)
    × (l.self.awaited ≡ l.initial.self.awaited)

-- each turn takes a byte at least
abbrev pub decreases-lines : goal.decreases-lines
decreases-lines g l = length l.rest
