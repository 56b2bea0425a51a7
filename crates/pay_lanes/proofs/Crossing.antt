-- A worker may be sent to another thread, if what keeps its accounts and its gate may.
use denote.RattleType.{RattleType}
use denote.Param.Send.{IsSend, sendable}
use Rattle.std.proofs.Crossing.{crosses}
use Rattle.pay_rules.specs.declared.fares.Fares as fares
use Rattle.pay_lanes.specs.declared.gate.Gate as gates
use Rattle.pay_shard.specs.contracts.journal.Journal as journal
use Rattle.pay_shard.specs.contracts.shard.Shard as shard
use Rattle.pay_lanes.specs.contracts.worker.Worker as worker
use Rattle.pay_shard.proofs.accounts.Accounts.TheSendSync as accounts
use Rattle.pay_shard.proofs.item.Entry.TheSendSync as entry
use Rattle.pay_shard.proofs.block.JournalBlock.TheSendSync as block
use Rattle.pay_shard.proofs.reply.Answer.TheSendSync as answer
use Rattle.pay_mailbox.proofs.ends.Inbox.TheSendSync as inbox
use Rattle.pay_mailbox.proofs.ends.Outbox.TheSendSync as outbox
use Rattle.pay_lanes.proofs.outgoing.Outgoing.TheSendSync as outgoing

Journal-send : IsSend journal.the_row
Journal-send = search (block.the_send, crosses, sendable) depth 16

module _ (F : RattleType) (g : fares.Ghosts F.Denot) where
  Shard-send : IsSend F → IsSend (shard.the_row F g)
  Shard-send s = search (accounts.the_send, Journal-send, crosses, sendable) depth 8

  pub Worker-send : (G : RattleType) (h : gates.Ghosts G.Denot) → IsSend F → IsSend G → IsSend (worker.the_row F G g h)
  Worker-send G h s t = search (Shard-send, inbox.the_send, outbox.the_send, outgoing.the_send, entry.the_send, answer.the_send, crosses, sendable) depth 14
