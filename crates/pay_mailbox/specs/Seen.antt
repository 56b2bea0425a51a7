-- What a pass of the queue says of its sender or receiver.
use Rattle.std.specs.Prelude.{◌≡◌, true, [], map}
use Rattle.atomic_table.specs.Seated.{TableId}
use Rattle.crossbeam_queue.specs.Passes.{Pass, view}
use Rattle.pay_mailbox.specs.Parts.{MailboxParts, SenderParts, ReceiverParts, sender_of}
use Rattle.pay_mailbox.specs.declared.rule.Back.{Back}
use Rattle.pay_mailbox.specs.declared.rule.View.{View}

-- a mailbox is its queue, which has a slot for each item that it may hold
abbrev pub seen_mailbox : TableId → MailboxParts
seen_mailbox z = record { id = z; capacity = z.slots }

module _ {T : Type 0} where
  abbrev pub seen_back : MailboxParts → Back T → SenderParts T
  seen_back m b = sender_of m b.number b.sent

  abbrev pub seen_sender : Pass T (View T) → SenderParts T
  seen_sender p = sender_of (seen_mailbox p.table_id) (view p).number (view p).sent

  abbrev pub seen_receiver : Pass T (View T) → ReceiverParts T
  seen_receiver p = record { mailbox = seen_mailbox p.table_id; got = (view p).got; made = (view p).made; back = map (seen_back (seen_mailbox p.table_id)) (view p).back }

  -- it sends, and holds no slot of the queue
  abbrev pub IsSending : Pass T (View T) → Type 0
  IsSending p = ((view p).sends ≡ true) × (p.me.1 ≡ [])

  -- it receives, and holds no slot of the queue
  abbrev pub IsReceiving : Pass T (View T) → Type 0
  IsReceiving p = ((view p).receives ≡ true) × (p.me.1 ≡ [])
