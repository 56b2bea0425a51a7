-- What is so of a close over any number of shards.
use Rattle.std.specs.Prelude.{◌≡◌, ℕ, suc, ◌≤◌, List, [], ◌∷◌, length, Option, Some, None, ⊤, refl}
use Rattle.pay_tables.specs.Words.{FareEditions}
use Rattle.pay_rules.specs.Accepted.{Accepted}
use Rattle.pay_rules.specs.State.{State}
use Rattle.pay_shard.specs.Words.{BatchParts, batch_of, batch, replay, items_of, all_items, AreAskedOf, IsWhole as IsStateOfAll}
use Rattle.pay_shard.specs.declared.asked.Asked.TheVariants.{Quotes as Asks}
use Rattle.pay_shard.specs.declared.item.Item.{Item}
use Rattle.pay_shard.specs.declared.reply.Answer.{Answer}
use Rattle.pay_shard.specs.declared.reply.Reply.TheVariants.{Quotes}
use Rattle.pay_till.specs.Words.{Taken}
use Rattle.pay_close.specs.Batches.{gathered, IsWhole}
use Rattle.pay_close.specs.Closes.{posted_of}
use Rattle.pay_close.specs.Close.{Books, batch_of_all, close}

-- ---- over any number of shards

-- an answer came and brings this batch
abbrev pub Brings : BatchParts → Option Answer → Type 0
Brings batch None = ⊥
Brings batch (Some answer) = answer.reply ≡ Quotes batch

-- What was put, from one shard on in ascending order, was answered by the shards: each answer brings the batch that the machine of its
-- shard gives for the day, by what the accounts of the shard have accepted.
abbrev pub AreOfShards : FareEditions → (each : ℕ → State) → (day of from : ℕ) → List Taken → Type 0
AreOfShards editions each day of from [] = ⊤
AreOfShards editions each day of from (t ∷ ts) = Brings (batch editions (each from) day from of) t.answer × AreOfShards editions each day of (suc from) ts

-- what is gathered of them is the batch of one machine over all accounts
abbrev pub ShardsGatherAll : Type 0
ShardsGatherAll = (editions : FareEditions) (of : ℕ) (each : ℕ → State) (whole : State) (day : ℕ) (put : List Taken) → 1 ≤ of → IsStateOfAll of each whole → length put ≡ of → AreOfShards editions each day of 0 put
    → IsWhole of put × (gathered put ≡ batch_of_all editions whole day)

-- so posting it is a close of that machine
abbrev pub ShardsCloseAsMachine : Type 0
ShardsCloseAsMachine = (editions : FareEditions) (of : ℕ) (each : ℕ → State) (books : Books) (day : ℕ) (put : List Taken) → 1 ≤ of → IsStateOfAll of each books.state → length put ≡ of → AreOfShards editions each day of 0 put
    → posted_of books.ledger put ≡ close editions books day

-- And where each shard answered after its own journal, it is the close of one machine which was asked all of these journals, in any
-- order that keeps that of each.
abbrev pub ShardsCloseAsMerge : Type 0
ShardsCloseAsMerge = (editions : FareEditions) (of : ℕ) (each : ℕ → State) (books : Books) (merged : List (ℕ × Item)) (day : ℕ) (put : List Taken) → 1 ≤ of → IsStateOfAll of each books.state → AreAskedOf of merged
    → length put ≡ of → AreOfShards editions (λ shard. replay editions (each shard) (items_of shard merged)) day of 0 put
    → posted_of books.ledger put ≡ close editions (record { state = replay editions books.state (all_items merged); ledger = books.ledger }) day

-- ---- over one shard that has all accounts

-- what is gathered of it is its batch, as it stands
abbrev pub OneShardGathersAll : Type 0
OneShardGathersAll = (editions : FareEditions) (state : State) (day : ℕ) (one : Taken) (answer : Answer) → one.answer ≡ Some answer → answer.reply ≡ Quotes (batch_of_all editions state day)
    → IsWhole 1 (one ∷ []) × (gathered (one ∷ []) ≡ batch_of_all editions state day)

-- so posting it is a close of the machine
abbrev pub OneShardClosesAsMachine : Type 0
OneShardClosesAsMachine = (editions : FareEditions) (books : Books) (day : ℕ) (one : Taken) (answer : Answer) → one.answer ≡ Some answer → answer.reply ≡ Quotes (batch_of_all editions books.state day)
    → posted_of books.ledger (one ∷ []) ≡ close editions books day

-- ---- worked rows

-- a Quotes of a day that a shard answered by a batch
abbrev answered_by : ℕ → BatchParts → Taken
answered_by shard batch = record { ticket = shard; asked = Asks 19_733 shard 2; answer = Some (record { shard = shard; place = 0; ticket = shard; command = Asks 19_733 shard 2; reply = Quotes batch }) }

-- two shards that answered each for its own accounts
two_shards : (editions : FareEditions) (each : ℕ → State) → AreOfShards editions each 19_733 2 0 (answered_by 0 (batch editions (each 0) 19_733 0 2) ∷ answered_by 1 (batch editions (each 1) 19_733 1 2) ∷ [])
two_shards editions each = (refl, (refl, tt))

-- what they bring of three accounts is what one machine gives of these
three_accounts : (editions : FareEditions) (one two three : Accepted)
    → gathered (answered_by 0 (batch_of editions 19_733 ((2, two) ∷ [])) ∷ answered_by 1 (batch_of editions 19_733 ((1, one) ∷ (3, three) ∷ [])) ∷ []) ≡ batch_of editions 19_733 ((1, one) ∷ (2, two) ∷ (3, three) ∷ [])
three_accounts editions one two three = refl
