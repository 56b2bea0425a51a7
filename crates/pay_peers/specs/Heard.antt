-- What a connection heard, and what it is told.
use Rattle.std.specs.Prelude.{◌≡◌, ℕ, List, ◌++◌, Option}
use Rattle.pay_session.specs.declared.port.Role.{Role}
use Rattle.pay_peers.specs.Lines.{Hears}
use Rattle.pay_peers.specs.declared.peer.Peer.{Peer}
use Rattle.pay_peers.specs.declared.word.Word.{Word}

-- a connection at a port took a front of what was pending and of what came behind that, from before to after
abbrev pub HasHeard : Role → Option Word → Peer → Peer → Type 0
HasHeard role word before after = Hears role word (before.awaited, before.begun, before.pending.items) (after.awaited, after.begun, after.pending.items)

-- a line waits to be sent on it, after all that waited
abbrev pub IsTold : Peer → Peer → List ℕ → Type 0
IsTold before after line = after.unsent.items ≡ before.unsent.items ++ line
