-- What contracts see of a lane and of a worker.
use Rattle.std.specs.Prelude.{◌≡◌, Bool, ℕ, zero, suc, ◌+◌, ◌-◌, ◌%◌, ◌^◌, max, min, List, [], ◌∷◌, length, Option, Some, slice_get, refl}
use Rattle.std.specs.Coded.{Coded, code_by, coded×, coded_ℕ, coded_bool, coded_list, coded_option}
use Rattle.pay_mailbox.specs.Words.{SenderParts, ReceiverParts, sender_code, receiver_code, having_sent, having_got, WasFull}
use Rattle.pay_shard.specs.Words.{ShardParts, shard_code}
use Rattle.pay_shard.specs.contracts.item.Entry as entries
use Rattle.pay_shard.specs.contracts.reply.Answer as answers
use Rattle.pay_shard.specs.declared.asked.Asked.{Asked}
use Rattle.pay_shard.specs.declared.asked.Asked.TheVariants as asked
use Rattle.pay_shard.specs.declared.item.Entry.{Entry}
use Rattle.pay_shard.specs.declared.reply.Answer.{Answer}
use Rattle.pay_lanes.specs.contracts.outgoing.Outgoing as outgoing
use Rattle.pay_lanes.specs.declared.outgoing.Outgoing.{Outgoing}

-- a lane: its number, what it sent to each shard, what it took, how many tickets it has given, and the number of the next
pub record LaneParts : Type 0 where
  pub number : ℕ
  pub shards : List (SenderParts Entry)
  pub answers : ReceiverParts Answer
  pub tickets : ℕ
  pub next : ℕ

abbrev pub lane_code : Coded LaneParts
lane_code =
    code_by (ℕ × (List (SenderParts Entry) × (ReceiverParts Answer × (ℕ × ℕ)))) (coded× coded_ℕ (coded× (coded_list (sender_code entries.the_row.coded)) (coded× (receiver_code answers.the_row.coded) (coded× coded_ℕ coded_ℕ))))
    (λ l. (l.number, (l.shards, (l.answers, (l.tickets, l.next))))) (λ p. record { number = p.0; shards = p.1.0; answers = p.1.1.0; tickets = p.1.1.1.0; next = p.1.1.1.1 }) (λ _. refl)

-- a worker: its shard, what it popped, what it sent to each lane, the last answer, if it is held, whether that is for good, and what its gate began with
pub record WorkerParts : Type 0 where
  pub shard : ShardParts
  pub requests : ReceiverParts Entry
  pub lanes : List (SenderParts Answer)
  pub held : Option Outgoing
  pub shut : Bool
  pub began : Option (List ℕ)

abbrev pub worker_code : Coded WorkerParts
worker_code =
    code_by (ShardParts × (ReceiverParts Entry × (List (SenderParts Answer) × (Option Outgoing × (Bool × Option (List ℕ))))))
    (coded× shard_code (coded× (receiver_code entries.the_row.coded) (coded× (coded_list (sender_code answers.the_row.coded)) (coded× (coded_option outgoing.the_row.coded) (coded× coded_bool (coded_option (coded_list coded_ℕ)))))))
    (λ w. (w.shard, (w.requests, (w.lanes, (w.held, (w.shut, w.began)))))) (λ p. record { shard = p.0; requests = p.1.0; lanes = p.1.1.0; held = p.1.1.1.0; shut = p.1.1.1.1.0; began = p.1.1.1.1.1 }) (λ _. refl)

-- of several shards the one that answers: that of the account, or the one that is named
abbrev pub shard_of : ℕ → Asked → ℕ
shard_of shards (asked.Tap tap) = tap.account % shards
shard_of shards (asked.Fix fix) = fix.account % shards
shard_of shards (asked.Due account day) = account % shards
shard_of shards (asked.Show account day) = account % shards
shard_of shards (asked.Quotes day shard of) = shard

-- how many commands of a lane are unanswered
abbrev pub unanswered : LaneParts → ℕ
unanswered l = l.tickets - length l.answers.got

module _ {T : Type 0} where
  -- senders, once the one at a place has sent one more
  abbrev pub sent_at : ℕ → T → List (SenderParts T) → List (SenderParts T)
  sent_at place x [] = []
  sent_at zero x (s ∷ senders) = having_sent s x ∷ senders
  sent_at (suc place) x (s ∷ senders) = s ∷ sent_at place x senders

  -- the sender at a place has this number
  abbrev pub IsSenderAt : ℕ → List (SenderParts T) → ℕ → Type 0
  IsSenderAt number senders place = (s : SenderParts T) → slice_get senders place ≡ Some s → number ≡ s.number

  -- the mailbox of the sender at a place was full at one moment
  abbrev pub WasFullAt : (T → ℕ) → List (SenderParts T) → ℕ → Type 0
  WasFullAt sender senders place = (s : SenderParts T) × (slice_get senders place ≡ Some s) × WasFull sender s

-- what a lane sends to ask this
abbrev pub next_entry : LaneParts → Asked → Entry
next_entry l asked = record { lane = l.number; ticket = l.next; command = asked }

-- a lane, once it has asked this
abbrev pub having_asked : LaneParts → Asked → LaneParts
having_asked l asked = record {
  number = l.number;
  shards = sent_at (shard_of (length l.shards) asked) (next_entry l asked) l.shards;
  answers = l.answers;
  tickets = l.tickets + 1;
  next = l.next + 1;
}

-- the next ticket once an answer was taken: it is above the answer's, so that a ticket is given before it is answered
abbrev pub next_above : ℕ → Answer → ℕ
next_above next answer = max next (min (answer.ticket + 1) (2 ^ 64 - 1))

-- a lane, once it has taken one more answer
abbrev pub having_taken : LaneParts → Answer → LaneParts
having_taken l answer = record { number = l.number; shards = l.shards; answers = having_got l.answers (answer ∷ []); tickets = l.tickets; next = next_above l.next answer }
