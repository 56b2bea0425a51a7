-- What a lane and a worker keep.
use Rattle.std.specs.Prelude.{◌≡◌, ℕ, ◌+◌, ◌<◌, ◌==◌, eqb, Bool, if◌then◌else◌, List, [], ◌∷◌, ◌++◌, All, length, map, Option, Some, None, IfSome, slice_get, ⊤}
use Rattle.std.specs.List.{IsDistinct}
use Rattle.pay_mailbox.specs.Words.{MailboxParts, SenderParts}
use Rattle.pay_shard.specs.Words.{ShardParts, answers_given, item_of, with_item, IsAskedOf}
use Rattle.pay_shard.specs.declared.item.Entry.{Entry}
use Rattle.pay_shard.specs.declared.item.Item.{Item}
use Rattle.pay_shard.specs.declared.reply.Answer.{Answer}
use Rattle.pay_lanes.specs.Parts.{LaneParts, WorkerParts, IsSenderAt}
use Rattle.pay_lanes.specs.declared.limits.TheConstants.{MOST_TICKETS}
use Rattle.pay_lanes.specs.declared.outgoing.Outgoing.{Outgoing}

-- the entries of a journal
abbrev pub entries_of : List Item → List Entry
entries_of items = map (λ (i : Item). i.entry) items

-- of the answers to these items those to the items of a lane, in order
abbrev pub at_lane : ℕ → List Item → List Answer → List Answer
at_lane lane [] answers = []
at_lane lane (item ∷ items) [] = []
at_lane lane (item ∷ items) (answer ∷ answers) = if eqb item.entry.lane lane then answer ∷ at_lane lane items answers else at_lane lane items answers

-- what the run of a shard's journal answers at the items of a lane, each with its place
abbrev pub answers_for : ℕ → ShardParts → List Answer
answers_for lane s = at_lane lane s.journal (answers_given s)

-- the answer that is held, if it is for the lane
abbrev pub held_for : ℕ → Option Outgoing → List Answer
held_for lane None = []
held_for lane (Some held) = if eqb held.lane lane then held.answer ∷ [] else []

-- the mailboxes of senders
abbrev pub mailboxes : {T : Type 0} → List (SenderParts T) → List MailboxParts
mailboxes senders = map (λ s. s.mailbox) senders

-- To a lane it sent, as its shard, what its journal's run answers at the lane's items, except one answer that is held.
abbrev pub IsTold : ShardParts → Option Outgoing → ℕ → SenderParts Answer → Type 0
IsTold s held lane way = (way.number ≡ s.number) × (way.sent ++ held_for lane held ≡ answers_for lane s)

-- each lane is so told
abbrev pub AreTold : ShardParts → Option Outgoing → List (SenderParts Answer) → Type 0
AreTold s held ways = (lane : ℕ) (way : SenderParts Answer) → slice_get ways lane ≡ Some way → IsTold s held lane way

-- an answer for a lane that there is, as the sender to it
abbrev pub IsOfferable : List (SenderParts Answer) → Outgoing → Type 0
IsOfferable ways outgoing = (outgoing.lane < length ways) × IsSenderAt outgoing.answer.shard ways outgoing.lane

-- a shard of which this entry is the next item
abbrev pub HasItem : ShardParts → Entry → ShardParts → Type 0
HasItem before entry after = (refused : Bool) × (after ≡ with_item before (item_of entry refused) after.memory)

-- a worker between its turns: what it popped is what its journal has, and each lane is told
pub record IsWorking (w : WorkerParts) : Type 0 where
  pub popped : w.requests.got ≡ entries_of w.shard.journal
  pub made : w.requests.made ≡ length w.lanes
  pub told : AreTold w.shard w.held w.lanes
  pub held : IfSome w.held (IsOfferable w.lanes)

-- what a lane of this number sends it sends as itself, and under tickets below that of the next
abbrev pub IsOwn : ℕ → ℕ → SenderParts Entry → Type 0
IsOwn number next s = (s.number ≡ number) × All (λ (entry : Entry). entry.ticket < next) s.sent

-- all that was sent, shard by shard
abbrev pub all_sent : List (SenderParts Entry) → List Entry
all_sent [] = []
all_sent (s ∷ senders) = s.sent ++ all_sent senders

-- no two entries are under one ticket
abbrev pub AreSingle : List Entry → Type 0
AreSingle entries = IsDistinct (λ (x y : Entry). y.ticket == x.ticket) entries

-- each answer is to a ticket below that of the next, or none is given any more
abbrev pub AreGiven : ℕ → List Answer → Type 0
AreGiven next answers = (next < MOST_TICKETS) → All (λ (a : Answer). a.ticket < next) answers

-- what was sent to the shards from one on, of so many in all, is asked of each of them
abbrev pub AreAskedFrom : ℕ → ℕ → List (SenderParts Entry) → Type 0
AreAskedFrom of shard [] = ⊤
AreAskedFrom of shard (s ∷ senders) = All (λ (entry : Entry). IsAskedOf of shard entry.command) s.sent × AreAskedFrom of (shard + 1) senders

-- A lane of its shards: what it sent to each is asked of that shard, and what it took is of shards that there are.
pub record IsOfShards (l : LaneParts) : Type 0 where
  pub asked : AreAskedFrom (length l.shards) 0 l.shards
  pub made : l.answers.made ≡ length l.shards
  pub taken : All (λ (a : Answer). a.shard < length l.shards) l.answers.got

-- a lane that goes on is the same end of the same queues, and of its shards if it was
pub record IsSameLane (before after : LaneParts) : Type 0 where
  pub number : after.number ≡ before.number
  pub shards : mailboxes after.shards ≡ mailboxes before.shards
  pub answers : after.answers.mailbox ≡ before.answers.mailbox
  pub of_shards : IsOfShards before → IsOfShards after

-- a worker that goes on is the same end of the same queues, over a shard of the same number, fare file and beginning, and its gate began as it did
pub record IsSameWorker (before after : WorkerParts) : Type 0 where
  pub number : after.shard.number ≡ before.shard.number
  pub editions : after.shard.editions ≡ before.shard.editions
  pub base : after.shard.base ≡ before.shard.base
  pub requests : after.requests.mailbox ≡ before.requests.mailbox
  pub back : after.requests.back ≡ before.requests.back
  pub lanes : mailboxes after.lanes ≡ mailboxes before.lanes
  pub began : after.began ≡ before.began
