-- What follows of the answers that a lane took from a shard, once it is known that these are the first of what its journal's run answers.
use Rattle.std.specs.Prelude.{◌≡◌, ℕ, ◌<◌, ⊤, List, [], ◌∷◌, ◌++◌, All, length}
use Rattle.std.specs.List.{AllZip}
use Rattle.pay_mailbox.specs.Words.{SenderParts, of}
use Rattle.pay_shard.specs.Words.{ShardParts, item_step, replay}
use Rattle.pay_shard.specs.declared.item.Entry.{Entry}
use Rattle.pay_shard.specs.declared.item.Item.{Item}
use Rattle.pay_shard.specs.declared.reply.Answer.{Answer}
use Rattle.pay_lanes.specs.Ends.{arrived, sent_by, IsAnswered}
use Rattle.pay_lanes.specs.Parts.{LaneParts, WorkerParts}
use Rattle.pay_lanes.specs.Turns.{by_lane, by_shard}
use Rattle.pay_lanes.specs.Working.{entries_of}

-- the place of each is above those of all before it
abbrev pub Rise : List Answer → Type 0
Rise [] = ⊤
Rise (a ∷ answers) = All (λ (b : Answer). a.place < b.place) answers × Rise answers

-- The answer to an item of a lane, at its place in the journal of a shard, is the machine's after all that stands before it. Of the lane there
-- stands before it just what the lane sent to that shard before.
pub record SeesEarlier (s : ShardParts) (lane : ℕ) (sent : List Entry) (a : Answer) : Type 0 where
  pub front : List Item
  pub item : Item
  pub back : List Item
  pub journal : s.journal ≡ front ++ item ∷ back
  pub place : a.place ≡ length front
  pub ticket : a.ticket ≡ item.entry.ticket
  pub command : a.command ≡ item.entry.command
  pub reply : a.reply ≡ (item_step s.editions (replay s.editions s.base front) item).reply
  pub later : List Entry
  pub earlier : sent ≡ of by_lane lane (entries_of front) ++ item.entry ∷ later

-- the places of the answers that a lane took from a shard rise
abbrev pub PlacesRise : Type 0
PlacesRise = (l : LaneParts) (w : WorkerParts) → IsAnswered l w → Rise (of by_shard w.shard.number l.answers.got)

-- Where what a lane sent to each shard stands in its journal or was left, each answer that it took sees all that it sent to that shard before.
abbrev pub AnswersSeeEarlier : Type 0
AnswersSeeEarlier = (l : LaneParts) (workers : List WorkerParts) (left : List (List Entry)) → length left ≡ length workers → All (IsAnswered l) workers
    → arrived l.number workers left ≡ sent_by l
    → AllZip (λ (w : WorkerParts) (s : SenderParts Entry). All (SeesEarlier w.shard l.number s.sent) (of by_shard w.shard.number l.answers.got)) workers l.shards
