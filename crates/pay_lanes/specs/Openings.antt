-- What is opened.
use Rattle.std.specs.Prelude.{◌≡◌, ℕ, ◌+◌, ◌<◌, ◌≢◌, ◌⊎◌, List, [], ◌∷◌, All, length, map, false, Option, None, ⊤}
use Rattle.std.specs.FinMap.{empty}
use Rattle.pay_tables.specs.Words.{FareEditions}
use Rattle.pay_mailbox.specs.Words.{SenderParts, ReceiverParts, sender_of, receiver_of}
use Rattle.pay_shard.specs.declared.item.Entry.{Entry}
use Rattle.pay_shard.specs.declared.reply.Answer.{Answer}
use Rattle.pay_shard.specs.declared.limits.TheConstants.{MOST_SHARDS}
use Rattle.pay_lanes.specs.Parts.{LaneParts, WorkerParts}
use Rattle.pay_lanes.specs.declared.limits.TheConstants.{MOST_LANES, MOST_REQUESTS, MOST_ANSWERS}

-- there are not from 1 to 16 shards or lanes, or not one gate for each shard
abbrev pub IsOutOfCount : ℕ → ℕ → ℕ → Type 0
IsOutOfCount shards lanes gates = (shards ≡ 0) ⊎ (MOST_SHARDS < shards) ⊎ (lanes ≡ 0) ⊎ (MOST_LANES < lanes) ⊎ (gates ≢ shards)

-- the numbers of the shards
abbrev pub shard_numbers : List WorkerParts → List ℕ
shard_numbers workers = map (λ (w : WorkerParts). w.shard.number) workers

-- what the gates of workers began with
abbrev pub began_of : List WorkerParts → List (Option (List ℕ))
began_of workers = map (λ (w : WorkerParts). w.began) workers

-- a worker of so many lanes over a shard without accounts and with an empty journal, by this fare file, which has popped and sent nothing
pub record IsNewWorker (fares : FareEditions) (lane_count : ℕ) (w : WorkerParts) : Type 0 where
  pub editions : w.shard.editions ≡ fares
  pub base : w.shard.base ≡ empty
  pub journal : w.shard.journal ≡ []
  pub popped : w.requests.got ≡ []
  pub sent : All (λ (s : SenderParts Answer). s.sent ≡ []) w.lanes
  pub few : w.requests.mailbox.capacity ≡ MOST_REQUESTS
  pub back : w.requests.back ≡ []
  pub lanes : length w.lanes ≡ lane_count
  pub held : w.held ≡ None
  pub not_shut : w.shut ≡ false

-- a lane to so many shards, which has sent and taken nothing
pub record IsNewLane (shard_count : ℕ) (l : LaneParts) : Type 0 where
  pub shards : length l.shards ≡ shard_count
  pub sent : All (λ (s : SenderParts Entry). s.sent ≡ []) l.shards
  pub taken : l.answers.got ≡ []
  pub made : l.answers.made ≡ shard_count
  pub few : l.answers.mailbox.capacity ≡ MOST_ANSWERS
  pub tickets : l.tickets ≡ 0
  pub next : l.next ≡ 0

module _ {T : Type 0} where
  -- the receiver of a new mailbox of this capacity
  abbrev pub IsNewReceiver : ℕ → ReceiverParts T → Type 0
  IsNewReceiver capacity r = (r ≡ receiver_of r.mailbox) × (r.mailbox.capacity ≡ capacity)

  -- receivers, once each has made so many more senders
  abbrev pub having_made_more : ℕ → List (ReceiverParts T) → List (ReceiverParts T)
  having_made_more count receivers = map (λ (r : ReceiverParts T). record { mailbox = r.mailbox; got = r.got; made = r.made + count; back = r.back }) receivers

  -- the next sender of each receiver, once each has made so many more
  abbrev pub senders_after : ℕ → List (ReceiverParts T) → List (SenderParts T)
  senders_after count receivers = map (λ (r : ReceiverParts T). sender_of r.mailbox (r.made + count) []) receivers

-- a sender of this number that has sent nothing
abbrev pub IsNewSender : {T : Type 0} → ℕ → SenderParts T → Type 0
IsNewSender number s = (s.number ≡ number) × (s.sent ≡ [])

-- each list is of senders that have sent nothing, of this number in the first list, of the next in the second, and so on
abbrev pub AreNewSenders : {T : Type 0} → ℕ → List (List (SenderParts T)) → Type 0
AreNewSenders number [] = ⊤
AreNewSenders number (senders ∷ lists) = All (IsNewSender number) senders × AreNewSenders (number + 1) lists

-- new lanes, of this number and on
abbrev pub lanes_from : ℕ → List (List (SenderParts Entry)) → List (ReceiverParts Answer) → List LaneParts
lanes_from number [] receivers = []
lanes_from number (senders ∷ lists) [] = []
lanes_from number (senders ∷ lists) (r ∷ receivers) = record { number = number; shards = senders; answers = r; tickets = 0; next = 0 } ∷ lanes_from (number + 1) lists receivers

-- a receiver of this capacity that has made so many senders, and got nothing
pub record IsReady {T : Type 0} (capacity count : ℕ) (r : ReceiverParts T) : Type 0 where
  pub few : r.mailbox.capacity ≡ capacity
  pub got : r.got ≡ []
  pub made : r.made ≡ count
  pub back : r.back ≡ []

-- what is asked of these workers comes to these receivers
abbrev pub requests_of : List WorkerParts → List (ReceiverParts Entry)
requests_of workers = map (λ (w : WorkerParts). w.requests) workers

-- the ways of workers to the lanes
abbrev pub ways_of : List WorkerParts → List (List (SenderParts Answer))
ways_of workers = map (λ (w : WorkerParts). w.lanes) workers
