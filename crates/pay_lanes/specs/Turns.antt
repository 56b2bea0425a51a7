-- What a worker does in a turn.
use Rattle.std.specs.Prelude.{◌≡◌, ℕ, [], ◌∷◌, ◌++◌, length, Some}
use Rattle.pay_mailbox.specs.Words.{having_got}
use Rattle.pay_shard.specs.declared.item.Entry.{Entry}
use Rattle.pay_shard.specs.declared.item.Item.{Item}
use Rattle.pay_shard.specs.declared.reply.Answer.{Answer}
use Rattle.pay_lanes.specs.Parts.{WorkerParts, WasFullAt}
use Rattle.pay_lanes.specs.declared.outgoing.Outgoing.{Outgoing}

-- whose an entry is
abbrev pub by_lane : Entry → ℕ
by_lane entry = entry.lane

-- whose an answer is
abbrev pub by_shard : Answer → ℕ
by_shard answer = answer.shard

-- the entry that it popped is the next item of its journal
pub record HasDone (before : WorkerParts) (place : ℕ) (after : WorkerParts) : Type 0 where
  pub next : place ≡ length before.shard.journal
  pub item : Item
  pub journal : after.shard.journal ≡ before.shard.journal ++ item ∷ []
  pub popped : after.requests ≡ having_got before.requests (item.entry ∷ [])

-- it popped nothing, and its journal is as before
pub record HasPoppedNone (before after : WorkerParts) : Type 0 where
  pub journal : after.shard.journal ≡ before.shard.journal
  pub requests : after.requests ≡ before.requests

-- an answer is held, and the queue of its lane was full at one moment
abbrev pub IsHeldUp : WorkerParts → Type 0
IsHeldUp w = (held : Outgoing) × (w.held ≡ Some held) × WasFullAt by_shard w.lanes held.lane
