-- What came of a request: what was replied, and which commands a desk took for it.
use Rattle.std.specs.Prelude.{ℕ, Bool, true, false, List, Result, Ok, Err}
use Rattle.std.specs.List.{flat_map, list_any}
use Rattle.pay_rules.specs.declared.posting.Posting.{Posting}
use Rattle.pay_shard.specs.declared.desk.DeskFault.{DeskFault}
use Rattle.pay_shard.specs.declared.desk.DeskFault.TheVariants as desk_fault
use Rattle.pay_shard.specs.declared.refusal.ShardRefusal.{ShardRefusal}
use Rattle.pay_shard.specs.declared.refusal.ShardRefusal.TheVariants as shard_refusal
use Rattle.pay_shard.specs.declared.reply.Reply.{Reply}
use Rattle.pay_shard.specs.declared.reply.Reply.TheVariants as desk_reply
use Rattle.pay_wire.specs.declared.refusal.Refusal.{Refusal}
use Rattle.pay_wire.specs.declared.refusal.Refusal.TheVariants as refusal
use Rattle.pay_wire.specs.declared.reply.SpelledReply.{SpelledReply}
use Rattle.pay_wire.specs.declared.reply.SpelledReply.TheVariants as replies
use Rattle.pay_wire.specs.Words.{spelling_of_reply}
use Rattle.pay_till.specs.Words.{Taken}

-- what was replied to a request, and the commands that a desk took for it
pub record Event : Type 0 where
  pub reply : SpelledReply
  pub put : List Taken

-- ---- replies as lines say them

-- a shard's refusal
abbrev pub refusal_of : ShardRefusal → Refusal
refusal_of shard_refusal.UnknownPlace = refusal.UnknownPlace
refusal_of shard_refusal.Conflict = refusal.Conflict
refusal_of shard_refusal.AccountFull = refusal.AccountFull
refusal_of shard_refusal.FixConflict = refusal.FixConflict
refusal_of shard_refusal.FixesFull = refusal.FixesFull

-- a desk's fault
abbrev pub refusal_of_desk : DeskFault → Refusal
refusal_of_desk desk_fault.Busy = refusal.Busy
refusal_of_desk desk_fault.Window = refusal.Window
refusal_of_desk desk_fault.NotKept = refusal.NotKept
refusal_of_desk desk_fault.Late = refusal.Late
refusal_of_desk desk_fault.Memory = refusal.Memory

-- A desk's reply. Quotes are the reply to no line: a desk that gives them has failed.
abbrev pub said : Reply → SpelledReply
said (desk_reply.Priced priced) = replies.Priced priced
said (desk_reply.No why) = replies.No (refusal_of why)
said (desk_reply.Due quote) = replies.Due quote
said (desk_reply.Shown shown) = replies.Shown shown
said (desk_reply.Quotes batch) = replies.No refusal.DeskFault
said desk_reply.Memory = replies.No refusal.Memory

-- what a close of a day came to
abbrev pub said_of_close : ℕ → Result (List Posting) Refusal → SpelledReply
said_of_close day (Ok postings) = replies.Closed (record { day = day; postings = postings })
said_of_close day (Err why) = replies.No why

-- ---- lists of events

-- what is written for events
abbrev pub text_of : List Event → List ℕ
text_of = flat_map (λ (e : Event). spelling_of_reply e.reply)

-- what was taken for events, in order
abbrev pub all_put : List Event → List Taken
all_put = flat_map (λ (e : Event). e.put)

-- whether memory was wanting for a request
abbrev pub lacks_memory : SpelledReply → Bool
lacks_memory (replies.No refusal.Memory) = true
lacks_memory _ = false

-- or for any of these
abbrev pub any_lacks_memory : List Event → Bool
any_lacks_memory = list_any (λ (e : Event). lacks_memory e.reply)
