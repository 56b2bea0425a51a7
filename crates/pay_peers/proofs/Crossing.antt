-- A place may be sent to another thread, if its clock may, and what it does beside its lines.
use denote.RattleType.{RattleType}
use denote.Param.Send.{IsSend, sendable, struct_send}
use Rattle.std.proofs.Crossing.{crosses}
use Rattle.std.proofs.time.Instant.TheSendSync as instant
use Rattle.mio.proofs.event.events.Events.TheSendSync as events
use Rattle.mio.proofs.net.listener.TcpListener.TheSendSync as listener
use Rattle.mio.proofs.net.stream.TcpStream.TheSendSync as stream
use Rattle.mio.proofs.poll.Poll.TheSendSync as poll
use Rattle.pay_session.proofs.conversation.Conversation.TheSendSync as conversation
use Rattle.pay_peers.specs.contracts.peer.Peer as peer
use Rattle.pay_peers.specs.contracts.peers.Peers as peers
use Rattle.pay_peers.specs.contracts.ready.Ready as ready
use Rattle.pay_peers.specs.contracts.serving.Serving as serving
use denote.Struct.Declared
use Rattle.pay_peers.specs.contracts.shared.Shared as shared
use Rattle.pay_peers.specs.contracts.tally.Seat as seat
use Rattle.pay_peers.specs.contracts.tally.Tally as tallies
use Rattle.pay_peers.proofs.tally.Tally.TheSendSync as tally
use Rattle.pay_peers.proofs.greeting.Greeting.TheSendSync as greeting
use Rattle.pay_peers.proofs.refused.Refused.TheSendSync as refused
use Rattle.pay_peers.proofs.word.Line.TheSendSync as line

Tally-send : IsSend tallies.the_row
Tally-send = search (crosses, sendable) depth 20

Seat-send : IsSend seat.the_row
Seat-send = search (Tally-send, tally.the_sync, crosses, sendable) depth 8

Shared-send : IsSend shared.the_row
Shared-send = search (greeting.the_send, Tally-send, tally.the_sync, crosses, sendable) depth 20

Peer-send : IsSend peer.the_row
Peer-send = search (Seat-send, greeting.the_send, line.the_send, refused.the_send, conversation.the_send, stream.the_send, crosses, sendable) depth 20

Peers-send : IsSend peers.the_row
Peers-send = search (Peer-send, crosses, sendable) depth 14

module _ (C A : RattleType) where
  pub Serving-send : IsSend C → IsSend A → IsSend (serving.the_field C A).row
  Serving-send c a = struct_send (denote.Struct.Declared.shape (serving.the_type C A)) (
    search (crosses, sendable),
    (
      search (crosses, sendable) depth 14,
      (
        search (crosses, sendable) depth 14,
        (
          search (crosses, sendable) depth 14,
          (
            search (Peer-send, crosses, sendable) depth 14,
            (
              search (crosses, sendable) depth 8,
              (
                search (greeting.the_send, Tally-send, tally.the_sync, crosses, sendable) depth 20,
                (
                  c,
                  (
                    a,
                    (
                      search (crosses, sendable),
                      (
                        search (instant.the_send, crosses, sendable) depth 8,
                        (
                          search (crosses, sendable),
                          tt,
                        ),
                      ),
                    ),
                  ),
                ),
              ),
            ),
          ),
        ),
      ),
    ),
  )

  pub Ready-field : IsSend C → IsSend A → IsSend (ready.the_field C A).row
  Ready-field c a = struct_send (denote.Struct.Declared.shape (ready.the_type C A)) (Serving-send c a, tt)

  pub Ready-send : IsSend C → IsSend A → IsSend (ready.the_row C A)
  Ready-send c a = search (Ready-field, sendable) depth 6
