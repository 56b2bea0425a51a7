-- Worked rows: three commands of the lanes 0 and 1, which one shard answers.
use Rattle.std.proofs.Common.{◌≡◌, ℕ, List, [], ◌∷◌, Some, false, refl}
use Rattle.std.specs.List.{IsDistinct}
use Rattle.pay_mailbox.specs.Words.{MailboxParts, sender_of, receiver_of, having_got}
use Rattle.pay_shard.specs.declared.asked.Asked.{Asked}
use Rattle.pay_shard.specs.declared.asked.Asked.TheVariants as asked
use Rattle.pay_shard.specs.declared.item.Entry.{Entry}
use Rattle.pay_shard.specs.declared.item.Item.{Item}
use Rattle.pay_shard.specs.declared.reply.Answer.{Answer}
use Rattle.pay_shard.specs.declared.reply.Reply.TheVariants as replies
use Rattle.pay_lanes.specs.Parts.{LaneParts, shard_of, unanswered, having_asked, having_taken}
use Rattle.pay_lanes.specs.Working.{at_lane, held_for, all_sent, AreSingle}

abbrev due : Asked
due = asked.Due 7 19_730

abbrev entry : ℕ → ℕ → Entry
entry lane ticket = record { lane = lane; ticket = ticket; command = due }

abbrev item : ℕ → ℕ → Item
item lane ticket = record { entry = entry lane ticket; refused_memory = false }

abbrev answer : ℕ → ℕ → Answer
answer place ticket = record { shard = 0; place = place; ticket = ticket; command = due; reply = replies.Memory }

-- lane 1 asks, then lane 0, then lane 1
abbrev items : List Item
items = item 1 0 ∷ item 0 0 ∷ item 1 1 ∷ []

abbrev all_answers : List Answer
all_answers = answer 0 0 ∷ answer 1 0 ∷ answer 2 1 ∷ []

pub of_lane_one : at_lane 1 items all_answers ≡ answer 0 0 ∷ answer 2 1 ∷ []
of_lane_one = refl

pub of_lane_zero : at_lane 0 items all_answers ≡ answer 1 0 ∷ []
of_lane_zero = refl

pub of_lane_two : at_lane 2 items all_answers ≡ []
of_lane_two = refl

-- the last is held, for lane 1 alone
pub held_for_one : held_for 1 (Some (record { lane = 1; answer = answer 2 1 })) ≡ answer 2 1 ∷ []
held_for_one = refl

pub held_for_zero : held_for 0 (Some (record { lane = 1; answer = answer 2 1 })) ≡ []
held_for_zero = refl

-- account 7 is of shard 3 of 4 and of shard 1 of 2; quotes go to the shard that they name
pub third_of_four : shard_of 4 due ≡ 3
third_of_four = refl

pub first_of_two : shard_of 2 due ≡ 1
first_of_two = refl

pub quotes_of_two : shard_of 4 (asked.Quotes 19_730 2 4) ≡ 2
quotes_of_two = refl

-- a lane to two shards, which has given three tickets and taken one answer, asks what account 7 owes
module _ (m n o : MailboxParts) where
  abbrev lane : LaneParts
  lane = record {
    number = 1;
    shards = sender_of m 1 (entry 1 0 ∷ []) ∷ sender_of n 1 (entry 1 1 ∷ entry 1 2 ∷ []) ∷ [];
    answers = having_got (receiver_of o) (answer 0 0 ∷ []);
    tickets = 3;
    next = 3;
  }

  pub three_sent : all_sent lane.shards ≡ entry 1 0 ∷ entry 1 1 ∷ entry 1 2 ∷ []
  three_sent = refl

  pub three_single : AreSingle (all_sent lane.shards)
  unfolding IsDistinct
  three_single = ((refl, (refl, tt)), ((refl, tt), (tt, tt)))

  pub two_unanswered : unanswered lane ≡ 2
  two_unanswered = refl

  pub asks : having_asked lane due ≡ record {
    number = 1;
    shards = sender_of m 1 (entry 1 0 ∷ []) ∷ sender_of n 1 (entry 1 1 ∷ entry 1 2 ∷ entry 1 3 ∷ []) ∷ [];
    answers = having_got (receiver_of o) (answer 0 0 ∷ []);
    tickets = 4;
    next = 4;
  }
  asks = refl

  pub takes : unanswered (having_taken lane (answer 1 1)) ≡ 1
  takes = refl

-- the second of these tickets is given again
pub given_twice : AreSingle (entry 1 0 ∷ entry 1 1 ∷ entry 1 1 ∷ []) → ⊥
unfolding IsDistinct
given_twice single = let off = single.1.0.0 in absurd (cc)
