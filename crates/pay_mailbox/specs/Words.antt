-- Words for the crates above: the items of a sender, what a contract sees of a mailbox, its senders and its receiver, and what a receiver has got.
pub use Rattle.pay_mailbox.specs.Of.{of}
pub use Rattle.pay_mailbox.specs.Parts.{MailboxParts, SenderParts, ReceiverParts, mailbox_code, sender_code, receiver_code}
pub use Rattle.pay_mailbox.specs.Parts.{sender_of, receiver_of, having_sent, having_got, having_made, having_back, AreAllBack, WasFull, HasAll, HasFirst, HasWaiting}
