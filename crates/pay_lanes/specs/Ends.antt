-- What workers and lanes are when their threads have returned, and what stands then in the journals and in what was left.
use Rattle.std.specs.Prelude.{◌≡◌, ℕ, ◌+◌, ◌≤◌, ⊤, List, [], ◌∷◌, ◌++◌, All, Any, drop, take, length, map, zip, Some, slice_get, IsPermutation}
use Rattle.std.specs.List.{range_with_len, AllZip}
use mathlib.Core.List.{IsPrefix}
use Rattle.pay_mailbox.specs.Words.{MailboxParts, SenderParts, having_back, of}
use Rattle.pay_shard.specs.Words.{IsAskedOf, IsHistory}
use Rattle.pay_shard.specs.declared.limits.TheConstants.{MOST_SHARDS}
use Rattle.pay_shard.specs.declared.item.Entry.{Entry}
use Rattle.pay_shard.specs.declared.item.Item.{Item}
use Rattle.pay_shard.specs.declared.reply.Answer.{Answer}
use Rattle.pay_lanes.specs.Parts.{LaneParts, WorkerParts}
use Rattle.pay_lanes.specs.Working.{entries_of, answers_for, mailboxes, IsSameLane, IsSameWorker, IsOfShards}
use Rattle.pay_lanes.specs.Turns.{by_lane, by_shard}

-- how many lanes were opened with workers
abbrev pub lanes_of : List WorkerParts → ℕ
lanes_of [] = 0
lanes_of (w ∷ workers) = length w.lanes

-- the numbers of lanes
abbrev pub numbers : List LaneParts → List ℕ
numbers lanes = map (λ (l : LaneParts). l.number) lanes

-- all lanes that were opened with workers, each once, in some order
abbrev pub AreAll : List WorkerParts → List LaneParts → Type 0
AreAll workers lanes = IsPermutation (range_with_len 0 (lanes_of workers)) (numbers lanes)

-- the worker's way to the lane, if it has one of that number, leads to its queue
abbrev pub IsWayTo : LaneParts → WorkerParts → Type 0
IsWayTo l w = (mailbox : MailboxParts) → slice_get (mailboxes w.lanes) l.number ≡ Some mailbox → mailbox ≡ l.answers.mailbox

-- the lane sends to these workers, each at the place of its number, what is asked of it, and they to the lane
abbrev pub IsLaneOf : List WorkerParts → LaneParts → Type 0
IsLaneOf workers l = (mailboxes l.shards ≡ map (λ (w : WorkerParts). w.requests.mailbox) workers) × All (IsWayTo l) workers × IsOfShards l

-- a worker with so many lanes, of which none has been taken back
abbrev pub IsWorkerOf : ℕ → WorkerParts → Type 0
IsWorkerOf count w = (length w.lanes ≡ count) × (w.requests.back ≡ [])

-- workers and lanes that were opened together
pub record AreTogether (workers : List WorkerParts) (lanes : List LaneParts) : Type 0 where
  pub few : length workers ≤ MOST_SHARDS
  pub workers_of : All (IsWorkerOf (lanes_of workers)) workers
  pub lanes_of_them : All (IsLaneOf workers) lanes

-- Workers that go on, each as it was, and lanes of which each goes on from one that there was.
pub record GoOn (ws vs : List WorkerParts) (ls ks : List LaneParts) : Type 0 where
  pub workers : AllZip IsSameWorker ws vs
  pub lanes : All (λ after. Any (λ before. IsSameLane before after) ls) ks

-- of each shard the entries of a lane that stand in its journal, and then those that were left
abbrev pub arrived : ℕ → List WorkerParts → List (List Entry) → List (List Entry)
arrived lane workers left = map (λ (p : WorkerParts × List Entry). of by_lane lane (entries_of p.0.shard.journal ++ p.1)) (zip workers left)

-- of a lane that was not opened with the workers nothing stands in a journal, and nothing was left
abbrev pub AreKnown : List WorkerParts → List (List Entry) → Type 0
AreKnown workers left = (lane : ℕ) → lanes_of workers ≤ lane → All (λ (entries : List Entry). entries ≡ []) (arrived lane workers left)

-- the entries in the journals of the shards from one on, of so many in all, are asked of each of them
abbrev pub AreJournalsFrom : ℕ → ℕ → List (List Item) → Type 0
AreJournalsFrom of shard [] = ⊤
AreJournalsFrom of shard (items ∷ journals) = All (λ (i : Item). IsAskedOf of shard i.entry.command) items × AreJournalsFrom of (shard + 1) journals

-- a journal is marked rightly, from what its shard began with
abbrev pub IsRight : WorkerParts → Type 0
IsRight w = IsHistory w.shard.editions w.shard.base w.shard.journal

-- what a lane sent to each shard
abbrev pub sent_by : LaneParts → List (List Entry)
sent_by l = map (λ (s : SenderParts Entry). s.sent) l.shards

-- what a lane took from a shard is the first of what its journal's run answers at the lane's items
abbrev pub IsAnswered : LaneParts → WorkerParts → Type 0
IsAnswered l w = IsPrefix (of by_shard w.shard.number l.answers.got) (answers_for l.number w.shard)

-- a lane, once it has given its first way and has got a way to it back
abbrev pub exchanged : LaneParts → SenderParts Answer → LaneParts
exchanged l way = record { number = l.number; shards = drop 1 l.shards; answers = having_back l.answers way; tickets = l.tickets; next = l.next }

-- the same of each of the first lanes, as many as there are ways
abbrev pub all_exchanged : List LaneParts → List (SenderParts Answer) → List LaneParts
all_exchanged [] ways = []
all_exchanged (l ∷ lanes) [] = l ∷ lanes
all_exchanged (l ∷ lanes) (way ∷ ways) = exchanged l way ∷ all_exchanged lanes ways

-- the worker is the one that all its lanes, in order, have their first way to
pub record IsNext (w : WorkerParts) (lanes : List LaneParts) : Type 0 where
  pub in_order : numbers lanes ≡ range_with_len 0 (length w.lanes)
  pub back : w.requests.back ≡ []
  pub ways : mailboxes w.lanes ≡ map (λ (l : LaneParts). l.answers.mailbox) lanes
  pub firsts : All (λ (l : LaneParts). mailboxes (take 1 l.shards) ≡ w.requests.mailbox ∷ []) lanes

-- what the lane sent to the worker that its first way leads to stands in the worker's journal or was left
abbrev pub HasLeft : WorkerParts → List Entry → LaneParts → Type 0
HasLeft w left l = map (λ (s : SenderParts Entry). s.sent) (take 1 l.shards) ≡ of by_lane l.number (entries_of w.shard.journal ++ left) ∷ []

-- of a lane that the worker has no way to nothing stands in its journal, and nothing was left
abbrev pub IsKnown : WorkerParts → List Entry → Type 0
IsKnown w left = (lane : ℕ) → length w.lanes ≤ lane → of by_lane lane (entries_of w.shard.journal ++ left) ≡ []
